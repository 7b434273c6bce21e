use Rattle.std.proofs.Common.{◌≤◌, ◌+◌, ◌++◌, ℕ, List, length, map}
use Rattle.connection_rules.specs.NetLines.{Barrier, NetShape}
use Rattle.net_touches.specs.Barriers.{name_at}
use Rattle.followed_nets.specs.Pieces.{AreAmong, AreOnPieces, ArePieces, Piece}
use Rattle.followed_nets.specs.Tests.{near_told}
use Rattle.followed_nets.specs.ToldViews.{told_view}
use Rattle.followed_nets.proofs.PiecesLeft.{ToCome}
use Rattle.followed_nets.proofs.exchanging.put_in_nets.Given as goal

abbrev pub invariant-loop-net : goal.invariant-loop-net
invariant-loop-net g l = record {
  left : (bars : List Barrier) (pieces rest : List Piece) → ArePieces (name_at (map (λ w. w.now) l.fn.layers)) bars pieces (map told_view l.fn.nets.items)
      → AreOnPieces (name_at (map (λ w. w.now) l.fn.layers)) bars rest l.fn.shapes l.fn.followed.lines.lines
      → ToCome (name_at (map (λ w. w.now) l.fn.layers)) bars (pieces ++ rest) (map told_view l.nets.items) l.shapes l.followed.lines.lines;
  tests : (then : List NetShape) → AreAmong l.shapes then
      → l.followed.tests + near_told (map told_view l.nets.items) then ≤ l.fn.followed.tests + near_told (map told_view l.fn.nets.items) then;
}

abbrev pub decreases-loop-net : goal.decreases-loop-net
decreases-loop-net g l = length l.nets.items

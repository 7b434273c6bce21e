use Rattle.std.proofs.Common.{◌≤◌, ◌+◌, ◌++◌, ℕ, List, length, map}
use Rattle.connection_rules.specs.NetLines.{Barrier, NetShape}
use Rattle.net_touches.specs.Barriers.{name_at}
use Rattle.followed_nets.specs.Pieces.{AreAmong, AreOnPieces, ArePieces, Piece}
use Rattle.followed_nets.specs.Tests.{near_told}
use Rattle.followed_nets.specs.ToldViews.{told_view}
use Rattle.followed_nets.proofs.PiecesLeft.{ToGo}
use Rattle.followed_nets.proofs.exchanging.take_out_nets.Given as goal

abbrev pub invariant-loop-net : goal.invariant-loop-net
invariant-loop-net g l = record {
  left : (bars : List Barrier) (pieces rest : List Piece) → ArePieces (name_at (map (λ w. w.now) l.fn.layers)) bars pieces (map told_view l.fn.nets.items)
      → AreOnPieces (name_at (map (λ w. w.now) l.fn.layers)) bars (pieces ++ rest) l.fn.shapes l.fn.followed.lines.lines
      → ToGo (name_at (map (λ w. w.now) l.fn.layers)) bars rest (map told_view l.nets.items) l.shapes l.followed.lines.lines;
  among : AreAmong l.shapes l.fn.shapes;
  tests : l.followed.tests + near_told (map told_view l.nets.items) l.fn.shapes ≤ l.fn.followed.tests + near_told (map told_view l.fn.nets.items) l.fn.shapes;
}

abbrev pub decreases-loop-net : goal.decreases-loop-net
decreases-loop-net g l = length l.nets.items

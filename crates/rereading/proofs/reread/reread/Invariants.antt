use Rattle.std.proofs.Common.{◌≡◌, ◌≤◌, length, ◌-◌}
use Rattle.rereading.specs.Rereading.{NoneShared, all_bytes}
use Rattle.rereading.specs.Windows.{Holds, IsTight}
use Rattle.rereading.proofs.Going.{Going}
use Rattle.rereading.proofs.reread.reread.Given as goal

abbrev pub invariant-statements : goal.invariant-statements
invariant-statements g l = record {
  pos : l.pos ≤ length l.window.bytes.items;
  few : l.reads ≤ l.pos;
  again : l.again ≤ l.window.used;
  counted : l.reads ≡ length l.pieces.items;
  holds : Holds l.raw (g.S.Segments.listed l.segments) l.window.used l.window.bytes.items;
  tight : IsTight l.raw (g.S.Segments.listed l.segments) l.window.used l.pos;
  unshared : NoneShared l.raw (g.S.Segments.listed l.segments) 0 l.pieces.items;
  going : Going l.fn.first (all_bytes l.raw (g.S.Segments.listed l.segments)) l.pieces.items l.mode l.pos;
}

abbrev pub decreases-statements : goal.decreases-statements
decreases-statements g l = length (all_bytes l.raw (g.S.Segments.listed l.segments)) - l.pos

use Rattle.std.proofs.Common.{◌≡◌, ◌≤◌, ◌<◌, ℕ, List, length, ◌-◌}
use Rattle.rereading.specs.Windows.{Holds}
use Rattle.rereading.proofs.Tries.{Tried}
use Rattle.rereading.proofs.whole.next_whole.Given as goal

abbrev pub invariant-grow : goal.invariant-grow
invariant-grow g l = record {
  some : 0 < l.more;
  pos : l.pos ≤ length l.window.bytes.items;
  counted : l.reads ≡ l.fn.reads;
  few : l.again ≤ l.window.used;
  holds : (raw : List ℕ) → Holds raw (g.S.Segments.listed l.segments) l.fn.window.used l.fn.window.bytes.items → Holds raw (g.S.Segments.listed l.segments) l.window.used l.window.bytes.items;
  tried : (raw : List ℕ) → Holds raw (g.S.Segments.listed l.segments) l.fn.window.used l.fn.window.bytes.items → Tried raw (g.S.Segments.listed l.segments) l.mode l.pos l.fn.window.used l.fn.again l.again l.window.used l.window.bytes.items;
}

abbrev pub decreases-grow : goal.decreases-grow
decreases-grow g l = length (g.S.Segments.listed l.segments) - l.window.used

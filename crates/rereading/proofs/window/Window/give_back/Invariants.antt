use Rattle.std.proofs.Common.{◌≤◌, ◌<◌, ◌+◌, ℕ, List, length, take}
use Rattle.rereading.specs.Segments.{bytes_of}
use Rattle.rereading.specs.Windows.{Holds}
use Rattle.rereading.proofs.window.Window.give_back.Given as goal

abbrev pub invariant-back : goal.invariant-back
invariant-back g l = record {
  within : l.self.used ≤ length (g.S.Segments.listed l.segments);
  pos : l.pos ≤ length l.self.bytes.items;
  holds : (raw : List ℕ) → Holds raw (g.S.Segments.listed l.segments) l.fn.self.used l.fn.self.bytes.items → Holds raw (g.S.Segments.listed l.segments) l.self.used l.self.bytes.items;
  kept : (raw : List ℕ) → Holds raw (g.S.Segments.listed l.segments) l.fn.self.used l.fn.self.bytes.items → (k : ℕ) → k < l.fn.self.used → length raw + length (bytes_of (take k (g.S.Segments.listed l.segments))) < l.pos → k < l.self.used;
}

abbrev pub decreases-back : goal.decreases-back
decreases-back g l = l.self.used

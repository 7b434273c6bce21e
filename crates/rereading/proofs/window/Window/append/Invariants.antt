use Rattle.std.proofs.Common.{◌++◌, ◌≡◌, ℕ, List, ◌+◌}
use Rattle.rereading.specs.Windows.{Holds}
use Rattle.rereading.proofs.window.Window.append.Given as goal

abbrev pub invariant-loop : goal.invariant-loop
invariant-loop g l = record {
  count : l.self.used ≡ l.fn.self.used + l.counter;
  longer : (more : List ℕ) × (l.self.bytes.items ≡ l.fn.self.bytes.items ++ more);
  holds : (raw : List ℕ) → Holds raw (g.S.Segments.listed l.segments) l.fn.self.used l.fn.self.bytes.items → Holds raw (g.S.Segments.listed l.segments) l.self.used l.self.bytes.items;
}

use Rattle.std.proofs.Common.{◌≡◌, ◌≤◌, ◌+◌, ◌++◌, length}
use Rattle.design_model.specs.Order.{texts}
use Rattle.report_lines.specs.Kinds.{HaveTheirKinds}
use Rattle.line_laws.specs.Lines.{SameLines}
use Rattle.kept_lines.proofs.kept.KeptLines.put_all.Given as goal

abbrev pub invariant-loop-line : goal.invariant-loop-line
invariant-loop-line g l = record {
  come : SameLines (texts l.put.items ++ l.self.lines) (texts l.fn.put.items ++ l.fn.self.lines);
  kinds : HaveTheirKinds l.put.items;
  fits : length l.self.lines + length l.put.items ≤ l.self.room;
  room : l.self.room ≡ l.fn.self.room;
}

abbrev pub decreases-loop-line : goal.decreases-loop-line
decreases-loop-line g l = length l.put.items

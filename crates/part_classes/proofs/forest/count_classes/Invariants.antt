use Rattle.std.proofs.Common.{◌≡◌, ◌≤◌, take}
use Rattle.shape_rules.specs.Classes.{distinct}
use Rattle.part_classes.proofs.forest.count_classes.Given as goal

abbrev pub invariant-loop-part : goal.invariant-loop-part
invariant-loop-part l = record {
  count : l.classes ≡ distinct (take l.part l.labels);
  few : l.classes ≤ l.part;
}

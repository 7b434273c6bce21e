use Rattle.std.proofs.Common.{◌≡◌}
use Rattle.shape_rules.specs.Classes.{numbers}
use Rattle.part_classes.proofs.classes.Classes.new.Given as goal

abbrev pub invariant-loop-part : goal.invariant-loop-part
invariant-loop-part g l = l.parents.items ≡ numbers 0 l.part

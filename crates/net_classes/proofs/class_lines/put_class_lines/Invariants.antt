use Rattle.std.proofs.Common.{◌≡◌, ◌++◌, length}
use Rattle.std.specs.Prelude.{flat_map}
use Rattle.connection_rules.specs.NetLines.{class_lines}
use Rattle.net_classes.proofs.class_lines.put_class_lines.Given as goal

abbrev pub invariant-loop-net : goal.invariant-loop-net
invariant-loop-net g l = l.lines ++ flat_map class_lines l.left ≡ l.fn.lines ++ flat_map class_lines l.fn.nets

abbrev pub decreases-loop-net : goal.decreases-loop-net
decreases-loop-net g l = length l.left

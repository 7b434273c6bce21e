use Rattle.std.proofs.Common.{◌≡◌, take}
use Rattle.net_classes.specs.PartShapes.{numbered_from}
use Rattle.net_classes.proofs.part_shapes.numbered.Given as goal

abbrev pub invariant-loop-id : goal.invariant-loop-id
invariant-loop-id g l = l.items.items ≡ numbered_from 0 (take l.id l.shapes)

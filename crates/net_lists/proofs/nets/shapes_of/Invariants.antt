use Rattle.std.proofs.Common.{◌≡◌, sum_by, take}
use Rattle.net_lists.specs.Counts.{shape_count}
use Rattle.net_lists.proofs.nets.shapes_of.Given as goal

abbrev pub invariant-loop-part : goal.invariant-loop-part
invariant-loop-part l = l.count ≡ sum_by shape_count (take l.part-index l.parts)

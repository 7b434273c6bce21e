use Rattle.std.proofs.Common.{◌≡◌, ◌++◌, drop, map}
use Rattle.net_lists.specs.PartCuts.{shape_view}
use Rattle.kept_nets.specs.Parts.{part_view, shapes_in}
use Rattle.kept_nets.proofs.part.shapes_of.Given as goal

abbrev pub invariant-loop-part : goal.invariant-loop-part
invariant-loop-part g l = map shape_view l.shapes.items ++ shapes_in (map part_view (drop l.part-index l.parts)) ≡ shapes_in (map part_view l.parts)

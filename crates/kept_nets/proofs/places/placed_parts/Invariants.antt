use Rattle.std.proofs.Common.{◌≡◌, ◌++◌, drop, map}
use Rattle.net_queries.specs.Held.{shapes_from}
use Rattle.placed_shapes.specs.Placed.{placed_shape}
use Rattle.kept_nets.specs.Parts.{part_view}
use Rattle.kept_nets.proofs.places.placed_parts.Given as goal

abbrev pub invariant-loop-place : goal.invariant-loop-place
invariant-loop-place g l = map placed_shape l.shapes.items ++ shapes_from l.place (map part_view (drop l.place l.parts)) ≡ shapes_from 0 (map part_view l.parts)

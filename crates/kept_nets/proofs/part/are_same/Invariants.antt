use Rattle.std.proofs.Common.{◌≡◌, map, take}
use Rattle.net_lists.specs.PartCuts.{shape_view}
use Rattle.kept_nets.proofs.part.are_same.Given as goal

abbrev pub invariant-loop-place : goal.invariant-loop-place
invariant-loop-place l = map shape_view (take l.place l.a) ≡ map shape_view (take l.place l.b)

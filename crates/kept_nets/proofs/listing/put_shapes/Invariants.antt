use Rattle.std.proofs.Common.{◌≡◌, ◌<◌, drop, length, map}
use Rattle.net_lists.specs.Building.{last_parts, with_shapes}
use Rattle.net_lists.specs.PartCuts.{shape_view}
use Rattle.kept_nets.proofs.listing.put_shapes.Given as goal

abbrev pub invariant-loop-shape : goal.invariant-loop-shape
invariant-loop-shape g l = record {
  left : with_shapes (map shape_view (drop l.shape-index l.shapes)) l.nets ≡ with_shapes (map shape_view l.shapes) l.fn.nets;
  net : 0 < length l.nets;
  part : 0 < length (last_parts l.nets);
}

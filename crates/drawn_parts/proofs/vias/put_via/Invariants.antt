use Rattle.std.proofs.Common.{◌≡◌, length}
use Rattle.wire_rules.specs.Paths.{one_via, shapes_there}
use Rattle.entry_rules.specs.WireItems.{net_via}
use Rattle.net_rules.specs.ViaRectangles.{via_shapes}
use Rattle.design_rules.specs.Boxes.{scale}
use Rattle.wire_parts.specs.PathViews.{wire_via_view}
use Rattle.design_wires.specs.KnownShapes.{known_left}
use Rattle.drawn_parts.specs.Drawing.{IsReady, drawing, put_pieces}
use Rattle.drawn_parts.proofs.vias.put_via.Given as goal

abbrev pub invariant-loop-shape : goal.invariant-loop-shape
invariant-loop-shape g l = record {
  ready : IsReady l.walk l.nets;
  same : l.walk.layers ≡ l.initial.walk.layers;
  so_far :
      put_pieces l.initial.walk.layers.layers (shapes_there (net_via (wire_via_view l.via)) l.at l.is_first (known_left l.left)) (drawing l.walk l.nets)
      ≡ put_pieces l.initial.walk.layers.layers (one_via (via_shapes l.wires.library l.wires.design (scale l.wires.design) (wire_via_view l.via).name) (net_via (wire_via_view l.via)) l.at) (drawing l.initial.walk l.initial.nets);
}

abbrev pub decreases-loop-shape : goal.decreases-loop-shape
decreases-loop-shape g l = length (known_left l.left)

use Rattle.std.proofs.Common.{◌≡◌, flat_map}
use Rattle.def_grammar.specs.Points.{place_of, points_after}
use Rattle.wire_rules.specs.Paths.{one_via}
use Rattle.entry_rules.specs.WireItems.{net_via}
use Rattle.net_rules.specs.ViaRectangles.{via_shapes}
use Rattle.design_rules.specs.Boxes.{scale}
use Rattle.def_parts.specs.PointViews.{later_points, point_view}
use Rattle.wire_parts.specs.PathViews.{wire_via_view}
use Rattle.drawn_parts.specs.Drawing.{IsReady, drawing, put_pieces}
use Rattle.drawn_parts.proofs.vias.put_vias.Given as goal

abbrev pub invariant-loop-later : goal.invariant-loop-later
invariant-loop-later g l = record {
  ready : IsReady l.walk l.nets;
  same : l.walk.layers ≡ l.initial.walk.layers;
  so_far :
      put_pieces l.initial.walk.layers.layers (flat_map (λ p. one_via (via_shapes l.wires.library l.wires.design (scale l.wires.design) (wire_via_view l.vias.via).name) (net_via (wire_via_view l.vias.via)) (place_of p)) (points_after (point_view l.at) (later_points l.left))) (drawing l.walk l.nets)
      ≡ put_pieces l.initial.walk.layers.layers (flat_map (λ p. one_via (via_shapes l.wires.library l.wires.design (scale l.wires.design) (wire_via_view l.vias.via).name) (net_via (wire_via_view l.vias.via)) (place_of p)) (points_after (point_view l.initial.at) (later_points l.initial.left))) (drawing l.initial.walk l.initial.nets);
}

abbrev pub decreases-loop-later : goal.decreases-loop-later
decreases-loop-later g l = l.left.most

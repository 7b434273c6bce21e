use Rattle.std.proofs.Common.{sym, subst}
use Rattle.design_model.specs.Geometry.{IsNearRectangle}
use Rattle.design_model.specs.Views.{rectangle_of}
use Rattle.lef_grammar.specs.Measures.{boundary_of}
use Rattle.place_parts.specs.ComponentViews.{component_view}
use Rattle.place_checks.proofs.BoxLemmas.{box_in_order, boxed_so, near_placed}
use Rattle.place_checks.proofs.boxes.box_at.Goals as goal

pub invariant_of-result : goal.invariant_of-result
invariant_of-result c =
    let outline = c.args.outline.now in
    record { near = subst IsNearRectangle (sym c.place_box.ensures) (near_placed c.args.spot.orient (rectangle_of outline.boundary) c.corner_of.result c.requires.2.small c.corner_of.ensures.across c.corner_of.ensures.up) }

pub returns : goal.returns
returns c u m at is_outline is =
    let o = c.args.spot.orient in
    let box = box_in_order o (boundary_of u m.size) (rectangle_of c.args.outline.now.boundary) (rectangle_of c.place_box.result) _ _
    c.place_box.ensures is_outline.boundary (c.corner_of.ensures.is at is) in
    boxed_so u (component_view c.args.parts.now) at o m _ _ _ _ (rw (is_outline.class) at c.if-is_cover.ensures) box is_outline.class is_outline.sites c.args.parts.now.assigned

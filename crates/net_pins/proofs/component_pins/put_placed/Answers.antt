use Rattle.std.proofs.Common.{◌≡◌, map, Some, ap, sym, ◌∙◌}
use Rattle.std.proofs.lemmas.Result.{on_ok_weaker}
use Rattle.def_grammar.specs.Placing.{placing}
use Rattle.cell_library.specs.PinViews.{pin_view}
use Rattle.cell_library.specs.ShapeViews.{shapes_view}
use Rattle.place_parts.specs.ComponentViews.{component_view}
use Rattle.place_parts.specs.StandingViews.{standing_of}
use Rattle.place_parts.specs.declared.standing.Standing.{Standing}
use Rattle.place_parts.specs.declared.standing.Standing.TheVariants.{At}
use Rattle.net_pins.specs.MacroPins.{all_placed}
use Rattle.net_pins.proofs.ComponentLemmas.{pin_placed}
use Rattle.net_pins.proofs.PutLemmas.{same_put}
use Rattle.net_pins.proofs.component_pins.put_placed.Goals as goal

pub returns-clause-ok : goal.returns-clause-ok
returns-clause-ok g c = λ m framed.
    let component = component_view c.args.component.now in
    let place = c.of-place.ensures in
    let stands : Some (At c.in-At.spot) ≡ standing_of component.clauses =
    ap (λ (s : Standing). Some s) (sym c.in-At.is) ∙ sym c.in-Some.is ∙ c.args.component.now.stands
    in
    let layers = c.args.layers.now.layers in
    let is = pin_placed c.args.layers.now m (pin_view (c.args.pin.name.now, c.args.pin.pin.now)) c.args.pin.frame c.of-place.result c.in-At.spot (placing component.clauses)
    framed place.frame place.orient place.at stands in
    on_ok_weaker c.put_shapes.result
    (same_put (all_placed c.of-place.result layers (map shapes_view c.as_slice.result.now)) (all_placed c.of-place.result layers (map shapes_view c.args.pin.pin.now.shapes)) _ c.put_shapes.new.nets c.args.nets.now
    (ap (λ ss. all_placed c.of-place.result layers (map shapes_view ss)) c.as_slice.ensures) is)
    c.put_shapes.ensures.ok

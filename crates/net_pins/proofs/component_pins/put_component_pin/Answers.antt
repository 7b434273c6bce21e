use Rattle.std.proofs.Common.{true, false, map, ap, ◌∙◌, rules}
use Rattle.std.proofs.lemmas.Result.{on_ok_weaker}
use Rattle.lef_grammar.specs.Measures.{point_or_0}
use Rattle.connection_rules.specs.Terminals.{component_pin, is_some_shape}
use Rattle.cell_library.specs.PinViews.{pin_view}
use Rattle.cell_library.specs.ShapeViews.{shapes_view}
use Rattle.place_parts.specs.ComponentViews.{component_view}
use Rattle.design_wires.specs.Scales.{units_of}
use Rattle.net_pins.specs.MacroPins.{all_checked}
use Rattle.net_pins.proofs.ComponentLemmas.{counted_so, counts_so, uncounted}
use Rattle.net_pins.proofs.component_pins.put_component_pin.Goals as goal

pub returns-then-not-has_shape-clause-ok : goal.returns-then-not-has_shape-clause-ok
returns-then-not-has_shape-clause-ok g c = λ m framed.
    let u = units_of c.args.pin.frame.scale in
    let p = pin_view (c.args.pin.name.now, c.args.pin.pin.now) in
    uncounted (component_pin c.args.layers.now u (component_view c.args.component.now) m p) c.args.nets.now
    (counts_so c.args.layers.now u m p c.has_shape.result false
    (c.has_shape.ensures.value u (point_or_0 u m.origin) ∙ ap (λ ss. is_some_shape (all_checked u (point_or_0 u m.origin) c.args.layers.now.layers (map shapes_view ss))) c.as_slice.ensures) (search rules))

pub returns-clause-ok : goal.returns-clause-ok
returns-clause-ok g c = λ m framed.
    let u = units_of c.args.pin.frame.scale in
    let p = pin_view (c.args.pin.name.now, c.args.pin.pin.now) in
    on_ok_weaker _
    (counted_so (component_pin c.args.layers.now u (component_view c.args.component.now) m p) c.args.nets.now c.begin_part.new.self c.put_placed.new.nets
    (counts_so c.args.layers.now u m p c.has_shape.result true
    (c.has_shape.ensures.value u (point_or_0 u m.origin) ∙ ap (λ ss. is_some_shape (all_checked u (point_or_0 u m.origin) c.args.layers.now.layers (map shapes_view ss))) c.as_slice.ensures) (search rules)) c.in-Ok.ensures.ok)
    (rw (c.has_shape.ensures.same) at (c.put_placed.ensures.ok m framed))

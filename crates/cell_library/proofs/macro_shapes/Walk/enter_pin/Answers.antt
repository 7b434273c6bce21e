use Rattle.std.proofs.Common.{ℕ, ◌+◌, List, drop, sym, ap, ◌∙◌, arith}
use Rattle.std.specs.Option.{option_map}
use Rattle.cell_library.specs.Naming.{entry_seen}
use Rattle.cell_library.specs.declared.pin.Pin.{Pin}
use Rattle.cell_library.specs.PinViews.{pin_view, pins_view}
use Rattle.cell_library.proofs.WalkLemmas.{fewer_steps, no_pin, none_left, pin_entered, pin_there}
use Rattle.cell_library.proofs.macro_shapes.Walk.enter_pin.Goals as goal

pub returns-in_default-clause-none : goal.returns-in_default-clause-none
returns-in_default-clause-none g c = λ no.
    let w = c.args.self.now in
    rw (c.requires.no_rectangle, c.requires.no_layer, no_pin w.pins.now w.next_pin (sym c.at.ensures.there ∙ ap (option_map entry_seen) c.in_default.is))
    (none_left w.placing.per_micron w.placing.origin w.library.now.layers w.pin.now w.layer.0)

pub overflow_add-self : goal.overflow_add-self
overflow_add-self g c = let few = c.in-Some.ensures.few in omega (arith, few)

pub returns-clause-same : goal.returns-clause-same
returns-clause-same g c =
    let w = c.args.self.now in
    let e : List ℕ × Pin _ = (c.in-Some.name.now, c.in-Some.pin.now) in
    rw (c.requires.no_rectangle, c.requires.no_layer, c.as_slice-self.ensures, pin_there w.pins.now w.next_pin e (sym c.at.ensures.there ∙ ap (option_map entry_seen) c.in-Some.is))
    (pin_entered w.placing.per_micron w.placing.origin w.library.now.layers w.pin.now w.layer.0 (pin_view e) (drop (w.next_pin + 1) (pins_view w.pins.now)))

pub returns-clause-fewer : goal.returns-clause-fewer
returns-clause-fewer g c = λ yes.
    let w = c.args.self.now in
    rw (c.requires.no_layer)
    (fewer_steps w.pins.now w.next_pin (c.in-Some.name.now, c.in-Some.pin.now) c.as_slice-self.result.now (sym c.at.ensures.there ∙ ap (option_map entry_seen) c.in-Some.is) c.as_slice-self.ensures)

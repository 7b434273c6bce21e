use Rattle.std.proofs.Common.{sym, ap, ◌∙◌, drop}
use Rattle.std.specs.Option.{option_map}
use Rattle.design_model.specs.declared.identifier.LayerId.{LayerId}
use Rattle.cell_library.specs.PinViews.{pins_view}
use Rattle.cell_library.proofs.WalkLemmas.{first_dropped, first_entered, some_left}
use Rattle.cell_library.proofs.macro_shapes.Walk.enter_next.Goals as goal

pub returns-in-Some-clause-same : goal.returns-in-Some-clause-same
returns-in-Some-clause-same g c =
    let w = c.args.self.now in
    let place = sym c.layer.ensures ∙ ap (option_map (λ (l : LayerId). l.0)) c.in-Some.is in
    rw (c.requires.no_rectangle)
    (first_entered w.placing.per_micron w.placing.origin w.library.now.layers w.pin.now w.layer.0 w.shapes.now c.index-self-0.result (some_left _ c.if-is_empty.ensures) c.index-self-0.is
    (drop w.next_pin (pins_view w.pins.now)) c.in-Some.layer.0 c.as_slice-self.result.now place c.as_slice-self.ensures)

pub returns-in_default-clause-same : goal.returns-in_default-clause-same
returns-in_default-clause-same g c =
    let w = c.args.self.now in
    let place = sym c.layer.ensures ∙ ap (option_map (λ (l : LayerId). l.0)) c.in_default.is in
    rw (c.requires.no_rectangle)
    (first_dropped w.placing.per_micron w.placing.origin w.library.now.layers w.pin.now w.layer.0 w.shapes.now c.index-self-0.result (some_left _ c.if-is_empty.ensures) c.index-self-0.is
    (drop w.next_pin (pins_view w.pins.now)) place)

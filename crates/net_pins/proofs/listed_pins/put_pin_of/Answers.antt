use Rattle.std.proofs.Common.{◌≡◌, ℕ, false, List, [], ◌∷◌, ap, ◌∙◌}
use Rattle.statement_model.specs.Reading.{is_among}
use Rattle.design_wires.specs.Scales.{units_of}
use Rattle.net_pins.specs.FoundPins.{IsFound}
use Rattle.net_pins.specs.Walking.{Walk}
use Rattle.net_pins.proofs.FoundLemmas.{found_name}
use Rattle.net_pins.proofs.UnseenLemmas.{of_found}
use Rattle.net_pins.proofs.listed_pins.put_pin_of.Goals as goal

pub put_found-requires-clause-new : goal.put_found-requires-clause-new
put_found-requires-clause-new g c new =
    let component = c.args.component.now in
    let found = c.in-Some.found in
    let u = units_of c.args.of.now.scale in
    let is_found = of_found _ (IsFound c.walk.inside.pins component.cell.bytes.now c.args.pin.now u) c.in_ok-found.field-0 found c.in-Some.is c.in_ok-found.ensures.found in
    let has_name = found_name c.walk.inside.pins component.cell.bytes.now c.args.pin.now u found is_found in
    ap (λ (name : List ℕ). is_among c.walk.inside.seen (component.name.bytes.now ∷ name ∷ [])) has_name
    ∙ ap (λ (w : Walk). is_among w.seen (component.name.bytes.now ∷ c.args.pin.now ∷ [])) c.walk.view_is
    ∙ c.requires.new new

use Rattle.std.proofs.Common.{◌≡◌, ◌∙◌, [], ◌∷◌, map, ap}
use Rattle.def_reader.specs.StatementViews.{record_view}
use Rattle.design_nets.specs.PinsAlone.{pins_alone}
use Rattle.followed_nets.proofs.PinsAlone.{only_pins}
use Rattle.followed_nets.proofs.star_pins.pins_by.Goals as goal

pub returns : goal.returns
returns g c = λ design net component tell.
    let library = c.args.library.now in
    let some = map record_view c.args.statements.now in
    let told = c.one_component_is_told.ensures library some design net component tell in
    let one : c.in_ok-nets.nets ≡ pins_alone told.told ∷ [] = (rw (c.in_ok-names.ensures) at c.in_ok-nets.ensures) ∙ ap (map pins_alone) told.nets in
    let pins = c.first_pins.ensures (pins_alone told.told) one in
    rw (← told.pins, ← only_pins told.told.parts) pins

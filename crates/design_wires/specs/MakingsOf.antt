-- What rules of the program make wires by.
use Rattle.std.specs.Option.{option_map}
use Rattle.lefdef_tokens.specs.Views.{word_view}
use Rattle.net_rules.specs.WirePieces.{net_wire_rules, special_wire_rules}
use Rattle.wire_rules.specs.Paths.{WireMakings}
use Rattle.design_rules.specs.Boxes.{scale}
use Rattle.design_wires.specs.declared.makings.NetMakings.{NetMakings}
use Rattle.design_wires.specs.declared.special_makings.SpecialMakings.{SpecialMakings}

abbrev pub net_makings_of : {A : Type 0} → NetMakings A → WireMakings
net_makings_of r = net_wire_rules r.wires.now.library r.wires.now.design (scale r.wires.now.design) (option_map word_view r.rule)

abbrev pub special_makings_of : {A : Type 0} → SpecialMakings A → WireMakings
special_makings_of r = special_wire_rules r.wires.now.library r.wires.now.design (scale r.wires.now.design) r.width

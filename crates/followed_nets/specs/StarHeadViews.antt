-- Pins of nets in the program as in the definitions.
use Rattle.std.specs.Prelude.{map}
use Rattle.net_lists.specs.PartCuts.{shape_view}
use Rattle.followed_nets.specs.StarHeads.{PinShapes}
use Rattle.followed_nets.specs.declared.star_heads.ToldPins.{ToldPins}

abbrev pub pins_view : {A : Type 0} → ToldPins A → PinShapes
pins_view p = record { name = p.name; shapes = map shape_view p.shapes.items }

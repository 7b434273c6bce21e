-- What one net after the other is drawn with.
use Rattle.std.specs.Prelude.{◌≡◌}
use Rattle.lef_grammar.specs.Library.{Library}
use Rattle.design_wires.specs.Defined.{DefinedIn}

-- the pins are those of a design, and layers are looked up in its library
pub record IsReady (of pins : DefinedIn) (pin_layers part_layers : Library) : Type 0 where
  pub pins_are : pins ≡ of
  pub pin_layers_are : pin_layers ≡ of.library
  pub part_layers_are : part_layers ≡ of.library

-- What statements are checked against.
use Rattle.std.specs.Prelude.{ℕ, List, Option}
use Rattle.def_grammar.specs.Records.{Record}
use Rattle.lef_grammar.specs.Library.{Library}
use Rattle.entry_rules.specs.OffLayer.{ViaLayers}
use Rattle.entry_rules.specs.Unknown.{Known, known_by}
use Rattle.entry_rules.specs.ViaLayers.{layers_named, via_layers}

pub record Definitions : Type 0 where
  pub library : Library
  pub design : List Record

-- what they define, which layers the via of a name has, and which of them it joins
abbrev pub known_in : Definitions → Known
known_in d = known_by d.library d.design

abbrev pub layers_in : Definitions → List ℕ → Option (List (List ℕ))
layers_in d = layers_named d.library d.design

abbrev pub vias_in : Definitions → ViaLayers
vias_in d = via_layers d.library d.design

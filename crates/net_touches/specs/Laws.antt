-- Laws of names, for callers.
use Rattle.std.specs.Prelude.{◌≡◌, List, map}
use Rattle.lef_grammar.specs.Definitions as lef
use Rattle.connection_rules.specs.NetLines.{layer_name}
use Rattle.net_touches.specs.Barriers.{name_at}

-- A layer's name by the list of all layers' names is its name by the list of layers.
abbrev pub LayersHaveTheirNames : Type 0
LayersHaveTheirNames = (layers : List lef.Layer) → name_at (map (λ l. l.name) layers) ≡ layer_name layers

-- Names of layers.
use Rattle.std.proofs.Common.{◌≡◌, ℕ, zero, suc, List, [], ◌∷◌, map, refl}
use Rattle.std.proofs.Math.Path.{fun_ext}
use Rattle.lef_grammar.specs.Definitions as lef
use Rattle.connection_rules.specs.NetLines.{layer_name}
use Rattle.net_touches.specs.Barriers.{name_at}
use Rattle.net_touches.specs.Laws.{LayersHaveTheirNames}

at_each : (layers : List lef.Layer) (n : ℕ) → name_at (map (λ l. l.name) layers) n ≡ layer_name layers n
unfolding layer_name
at_each [] n = refl
at_each (l ∷ ls) zero = refl
at_each (l ∷ ls) (suc n) = at_each ls n

pub layers_have_their_names : LayersHaveTheirNames
layers_have_their_names layers = fun_ext (at_each layers)

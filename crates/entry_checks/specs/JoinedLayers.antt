-- The layers that a via joins, as they are noted one after the other.
use Rattle.std.specs.Prelude.{◌≡◌, ◌<◌, ℕ, List, [], ◌∷◌, filter, length, Option, Some}
use Rattle.lef_grammar.specs.Definitions.{LayerShapes}
use Rattle.form_meanings.specs.Firsts.{with_all}
use Rattle.lef_grammar.specs.Library.{Library, layer_named}
use Rattle.entry_rules.specs.ViaLayers.{has_routing, routing_layers}
use Rattle.entry_checks.specs.declared.joined_layers.JoinedLayers.{JoinedLayers}
use Rattle.entry_checks.specs.declared.joined_layers.JoinedLayers.TheVariants as variants

abbrev pub layer_of : LayerShapes → List ℕ
layer_of s = s.layer

-- these layers are noted; of more than two only that they are more
abbrev pub AreNoted : JoinedLayers → List (List ℕ) → Type 0
AreNoted variants.Nothing layers = layers ≡ []
AreNoted (variants.One a) layers = layers ≡ a.now ∷ []
AreNoted (variants.Two a b) layers = layers ≡ a.now ∷ b.now ∷ []
AreNoted variants.More layers = 2 < length layers

-- with some of a via's names left, the layers of TYPE ROUTING among those before are noted
pub record Joins (library : Library) (noted : JoinedLayers) (left all : List (List ℕ)) : Type 0 where
  pub layers : List (List ℕ)
  pub so_far : AreNoted noted layers
  pub same : with_all (λ name. name) layers (filter (λ name. has_routing (layer_named library name)) left) ≡ routing_layers library all

-- the layers of a via that is known are noted
pub record JoinsThose (library : Library) (noted : JoinedLayers) (named : Option (List (List ℕ))) : Type 0 where
  pub names : List (List ℕ)
  pub are : named ≡ Some names
  pub joins : Joins library noted [] names

-- Noting the layers of a via.
use Rattle.std.proofs.Common.{◌≡◌, ◌<◌, ℕ, true, false, List, [], ◌∷◌, length, refl, arith, Some, None}
use Rattle.std.specs.Str.{bytes_eq}
use denote.Ref.{Bor}
use Rattle.form_meanings.specs.Firsts.{with_all, with_first}
use Rattle.lef_grammar.specs.Library.{Library, layer_named}
use Rattle.wire_rules.specs.Paths.{other_layer}
use Rattle.entry_rules.specs.ViaLayers.{has_routing, routing_layers}
use Rattle.entry_checks.specs.JoinedLayers.{AreNoted, Joins}
use Rattle.entry_checks.specs.declared.joined_layers.JoinedLayers.{JoinedLayers}
use Rattle.entry_checks.specs.declared.joined_layers.JoinedLayers.TheVariants as variants

module _ (library : Library) (now : JoinedLayers) (name : List ℕ) (left all : List (List ℕ)) (p : Joins library now (name ∷ left) all) where
  pub noted : (after : JoinedLayers) → has_routing (layer_named library name) ≡ true → ((layers : List (List ℕ)) → AreNoted now layers → AreNoted after (with_first (λ n. n) layers name)) → Joins library after left all
  unfolding with_all
  noted after is with_one = record { layers = with_first (λ n. n) p.layers name; so_far = with_one p.layers p.so_far; same = rw is at p.same }

  pub passed : has_routing (layer_named library name) ≡ false → Joins library now left all
  passed is = record { layers = p.layers; so_far = p.so_far; same = rw is at p.same }

-- all are noted
pub all_noted : (library : Library) (now : JoinedLayers) (all : List (List ℕ)) → Joins library now [] all → AreNoted now (routing_layers library all)
unfolding with_all
all_noted library now all p = rw (← p.same) p.so_far

module _ (layer : List ℕ) where
  of_more : (layers : List (List ℕ)) → 2 < length layers → None ≡ other_layer layer layers
  of_more [] more = absurd (omega (arith, more))
  of_more (a ∷ []) more = absurd (omega (arith, more))
  of_more (a ∷ b ∷ []) more = absurd (omega (arith, more))
  of_more (a ∷ b ∷ c ∷ layers) more = refl

  -- other than two layers join none
  pub joins_none : (now : JoinedLayers) (layers : List (List ℕ)) → ((a b : Bor (List ℕ)) → now ≡ variants.Two a b → ⊥) → AreNoted now layers → None ≡ other_layer layer layers
  joins_none variants.Nothing layers others is = rw is refl
  joins_none (variants.One a) layers others is = rw is refl
  joins_none (variants.Two a b) layers others is = absurd (others a b refl)
  joins_none variants.More layers others more = of_more layers more

  -- two layers join one to the other
  module _ (now : JoinedLayers) (a b : Bor (List ℕ)) (layers : List (List ℕ)) (is : now ≡ variants.Two a b) (noted_are : AreNoted now layers) where
    both : layers ≡ a.now ∷ b.now ∷ []
    both = rw is at noted_are

    pub joins_first : true ≡ bytes_eq a.now layer → Some b.now ≡ other_layer layer layers
    joins_first same = rw (both, ← same) refl

    pub joins_second : false ≡ bytes_eq a.now layer → true ≡ bytes_eq b.now layer → Some a.now ≡ other_layer layer layers
    joins_second other same = rw (both, ← other, ← same) refl

    pub joins_neither : false ≡ bytes_eq a.now layer → false ≡ bytes_eq b.now layer → None ≡ other_layer layer layers
    joins_neither other second = rw (both, ← other, ← second) refl

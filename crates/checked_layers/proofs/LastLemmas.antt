-- Layers that were found by their names are found by them again.
use Rattle.std.proofs.Common.{◌≡◌, ℕ, zero, suc, Bool, true, false, List, [], ◌∷◌, set, refl, sym, ap, ◌∙◌, Option, Some, None, if◌then◌else◌, slice_get, arith}
use Rattle.std.specs.Prelude.{IfSome}
use Rattle.std.specs.Option.{option_map}
use Rattle.std.specs.Str.{bytes_eq}
use Rattle.std.proofs.lemmas.List.Elements.{All-set}
use Rattle.std.proofs.lemmas.Slice.Eq.{bytes_eq-Decides}
use Rattle.design_model.specs.declared.identifier.LayerId.{LayerId}
use Rattle.lef_grammar.specs.Definitions.{Layer}
use Rattle.lef_grammar.specs.Measures.{place_among}
use Rattle.connection_rules.specs.PinShapes.{is_checked}
use Rattle.checked_layers.specs.CheckedLayers.{checked_place, if_checked}
use Rattle.checked_layers.specs.LastLayers.{AreFound, IsFound}

same_name : (a b : List ℕ) → bytes_eq a b ≡ true → a ≡ b
same_name a b t = grind (arith, bytes_eq-Decides)

no_place : {X : Type 0} (n : ℕ) → None ≡ Some n → X
no_place n e = let none : ⊥ = cc in absurd none

other_place : {X : Type 0} (m : ℕ) → Some 0 ≡ Some (suc m) → X
other_place m e = let same : 0 ≡ suc m = cc in absurd (omega (arith, same))

-- a place that is later by one
later : (o : Option ℕ) (n : ℕ) → option_map suc o ≡ Some n → ((m : ℕ) × (n ≡ suc m) × (o ≡ Some m))
later None n e = no_place n e
later (Some m) n e = let same : n ≡ suc m = cc in (m, same, refl)

-- the layer at the place of a name has that name
named : (layers : List Layer) (name : List ℕ) (n : ℕ) (l : Layer) → place_among layers name ≡ Some n → slice_get layers n ≡ Some l → l.name ≡ name
named [] name n l found there = no_place n found
named (x ∷ xs) name n l found there = by (bytes_eq x.name name) refl n (named xs name) found there
  where
    by : (b : Bool) → bytes_eq x.name name ≡ b → (n : ℕ) → ((m : ℕ) (k : Layer) → place_among xs name ≡ Some m → slice_get xs m ≡ Some k → k.name ≡ name)
        → (if b then Some 0 else option_map suc (place_among xs name)) ≡ Some n → slice_get (x ∷ xs) n ≡ Some l → l.name ≡ name
    by true e zero rest h k = let same : x ≡ l = cc in ap (λ (y : Layer). y.name) (sym same) ∙ same_name x.name name e
    by true e (suc m) rest h k = other_place m h
    by false e n rest h k = let p = later (place_among xs name) n h in rest p.0 l p.2 (ap (slice_get (x ∷ xs)) (sym p.1) ∙ k)

placed : (layers : List Layer) (o : Option ℕ) (n : ℕ) → if_checked layers o ≡ Some n → o ≡ Some n
placed layers None n h = no_place n h
placed layers (Some m) n h = by (is_checked layers m) h
  where
    by : (b : Bool) → (if b then Some m else None) ≡ Some n → Some m ≡ Some n
    by true e = e
    by false e = no_place n e

pub found_again : (layers : List Layer) (name : List ℕ) (layer : LayerId) → checked_place layers name ≡ Some layer.0 → IsFound layers layer
found_again layers name layer h = record { by_name = λ l there. ap (checked_place layers) (named layers name layer.0 l (placed layers (place_among layers name) layer.0 h) there) ∙ h }

-- what a look-up answers is found again,
pub as_found : (layers : List Layer) (name : List ℕ) (o : Option LayerId) → option_map (λ (l : LayerId). l.0) o ≡ checked_place layers name → IfSome o (IsFound layers)
as_found layers name None h = tt
as_found layers name (Some l) h = found_again layers name l (sym h)

-- and so is one that is kept beside others
pub found_more : (layers : List Layer) (last : List (Option LayerId)) (i : ℕ) (o : Option LayerId) → AreFound layers last → IfSome o (IsFound layers) → AreFound layers (set last i o)
found_more layers last i o are is = record { each = All-set (λ (o : Option LayerId). IfSome o (IsFound layers)) last i o is are.each }

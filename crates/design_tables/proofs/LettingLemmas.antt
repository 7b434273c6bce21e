-- Names taken out under which nothing stands.
use Rattle.std.proofs.Common.{◌≡◌, ℕ, suc, Bool, true, false, not, ◌&&◌, ◌||◌, List, [], ◌∷◌, length, nat_eq, refl, sym, ap, ◌∙◌, Option, Some, None, arith}
use Rattle.std.specs.Map.{IsKeyTest, KeepsOthers, lookup}
use Rattle.std.specs.Option.{option_map}
use Rattle.std.specs.Prelude.{map}
use Rattle.std.specs.Str.{bytes_eq}
use Rattle.std.proofs.lemmas.Bool.Decides.{nat_tests}
use Rattle.design_tables.specs.LettingGo.{is_unused}
use Rattle.design_tables.specs.Listings.{Listing, found, listed, or_unlisted, unlisted}
use Rattle.design_tables.specs.ListingViews.{listing_view, named_view}
use Rattle.design_tables.specs.declared.names.Listing as code
use Rattle.design_tables.specs.declared.role.Mark.{Mark}
use Rattle.design_tables.proofs.ListingLemmas.{found_is, is_key, same_name}

some_more : (k n : ℕ) → (nat_eq (suc k) 0 && nat_eq n 0) ≡ true → ⊥
some_more k n h = grind (arith, nat_tests, h)

empty_is : (ms : List Mark) (n : ℕ) → (nat_eq (length ms) 0 && nat_eq n 0) ≡ true → record { marks = ms; entries = n } ≡ unlisted
empty_is [] n h = ap (λ k. record { marks = []; entries = k }) (grind (arith, nat_tests, h))
empty_is (m ∷ ms) n h = absurd (some_more (length ms) n h)

-- nothing stands there
pub unused_is : (o : Option Listing) → is_unused o ≡ true → or_unlisted o ≡ unlisted
unused_is None h = refl
unused_is (Some l) h = empty_is l.marks l.entries h

key_test : (n : List ℕ) → IsKeyTest bytes_eq (is_key n)
key_test n x y h = ap (λ k. bytes_eq k y) (same_name n x h)

module _ {A : Type 0} where
  others : (name n : List ℕ) (es fs : List (List ℕ × code.Listing A)) → KeepsOthers bytes_eq (is_key name) es fs → bytes_eq n name ≡ false → lookup (is_key n) fs ≡ lookup (is_key n) es
  unfolding KeepsOthers
  others name n es fs keeps other =
      keeps (is_key n) (key_test n) (λ k at. ap (bytes_eq n) (sym (same_name name k at)) ∙ other)

  module _ (name : List ℕ) (es fs : List (List ℕ × code.Listing A)) (none : lookup (is_key name) fs ≡ None) (keeps : KeepsOthers bytes_eq (is_key name) es fs) where
    here : (n : List ℕ) → bytes_eq n name ≡ true → found n (map named_view fs) ≡ None
    here n is = ap (λ k. found k (map named_view fs)) (same_name n name is) ∙ found_is name fs ∙ ap (option_map listing_view) none

    there : (n : List ℕ) → bytes_eq n name ≡ false → found n (map named_view fs) ≡ found n (map named_view es)
    there n other = found_is n fs ∙ ap (option_map listing_view) (others name n es fs keeps other) ∙ sym (found_is n es)

    -- what stands under each name after one is taken out
    pub listed_left : is_unused (found name (map named_view es)) ≡ true → (n : List ℕ) → listed n (map named_view fs) ≡ listed n (map named_view es)
    listed_left unused n = by (bytes_eq n name) refl
      where
        by : (b : Bool) → bytes_eq n name ≡ b → listed n (map named_view fs) ≡ listed n (map named_view es)
        by true is = ap or_unlisted (here n is) ∙ sym (unused_is (found n (map named_view es)) (ap (λ k. is_unused (found k (map named_view es))) (same_name n name is) ∙ unused))
        by false other = ap or_unlisted (there n other)

    pub unused_left : (n : List ℕ) → is_unused (found n (map named_view fs)) ≡ (not (bytes_eq n name) && is_unused (found n (map named_view es)))
    unused_left n = by (bytes_eq n name) refl
      where
        by : (b : Bool) → bytes_eq n name ≡ b → is_unused (found n (map named_view fs)) ≡ (not b && is_unused (found n (map named_view es)))
        by true is = ap is_unused (here n is)
        by false other = ap is_unused (there n other)

-- a name of those that are left, or one that is in use
pub next_left : (b left unused after : Bool) → ((b || left) || not unused) ≡ true → after ≡ (not b && unused) → (left || not after) ≡ true
next_left b true unused after h e = refl
next_left true false unused after h e = ap not e
next_left false false unused after h e = ap not e ∙ h

pub none_left : (left unused : Bool) → left ≡ false → (left || not unused) ≡ true → unused ≡ false
none_left true unused none h = cc
none_left false true none h = sym h
none_left false false none h = refl

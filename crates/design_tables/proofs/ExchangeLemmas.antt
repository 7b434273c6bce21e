-- What stands under names exchanged, turn by turn.
use Rattle.std.proofs.Common.{◌≡◌, ℕ, ◌+◌, zero, suc, Bool, true, false, ◌||◌, List, [], ◌∷◌, ◌++◌, drop, length, take, map, refl, sym, ap, ap₂, ◌∙◌, Some, None, is_some, add-one, append_assoc}
use Rattle.std.specs.List.{AllByRecursion, IsDistinct, list_any, slice_get}
use Rattle.std.specs.Map.{keys_of, lookup, set_value}
use Rattle.std.specs.Option.{option_map}
use Rattle.std.specs.Str.{bytes_eq}
use Rattle.std.proofs.lemmas.Map.Keys.{IsDistinct-head, IsDistinct-tail}
use Rattle.indexmap.specs.Layout.{set_value_at}
use Rattle.design_tables.specs.Listings.{Listing, has_name, listed, or_unlisted}
use Rattle.design_tables.specs.ListingViews.{listing_view, named_view}
use Rattle.design_tables.specs.Prepared.{AreApart, HasNames, exchanged, set_named}
use Rattle.design_tables.specs.declared.names.Listing as code
use Rattle.design_tables.proofs.ListingLemmas.{found_is, has_is, has_set, is_key, or_true, own_name, set_is}

abbrev Entries : Type 0 → Type 0
Entries A = List (List ℕ × code.Listing A)

abbrev seen : {A : Type 0} → List (List ℕ × code.Listing A) → List (List ℕ × Listing)
seen es = map named_view es

module _ {A : Type 0} where
  long_as : (es : Entries A) (i : ℕ) (v : code.Listing A) → length (set_value_at es i v) ≡ length es
  long_as [] i v = refl
  long_as (e ∷ es) zero v = refl
  long_as (e ∷ es) (suc i) v = ap suc (long_as es i v)

  rest_at : (es : Entries A) (i : ℕ) (k : List ℕ) (l : code.Listing A) → slice_get es i ≡ Some (k, l) → drop i (seen es) ≡ (k, listing_view l) ∷ drop (suc i) (seen es)
  rest_at [] i k l at = cc
  rest_at (e ∷ es) zero k l at = let same : e ≡ (k, l) = cc in ap (λ (x : List ℕ × code.Listing A). named_view x ∷ seen es) same
  rest_at (e ∷ es) (suc i) k l at = rest_at es i k l at

  rest_set : (es : Entries A) (i : ℕ) (v : code.Listing A) → drop (suc i) (seen (set_value_at es i v)) ≡ drop (suc i) (seen es)
  rest_set [] i v = refl
  rest_set (e ∷ es) zero v = refl
  rest_set (e ∷ es) (suc i) v = rest_set es i v

  front_set : (es : Entries A) (i : ℕ) (k : List ℕ) (l v : code.Listing A) → slice_get es i ≡ Some (k, l) → take (suc i) (seen (set_value_at es i v)) ≡ take i (seen es) ++ (k, listing_view v) ∷ []
  front_set [] i k l v at = cc
  front_set (e ∷ es) zero k l v at = let same : e ≡ (k, l) = cc in ap (λ (x : List ℕ × code.Listing A). (x.0, listing_view v) ∷ []) same
  front_set (e ∷ es) (suc i) k l v at = ap (λ xs. named_view e ∷ xs) (front_set es i k l v at)

  -- after i turns
  pub record Going (start : List (List ℕ × Listing) × List (List ℕ × Listing)) (i : ℕ) (cs es : Entries A) (end : ℕ) : Type 0 where
    pub change : start.0 ≡ take i (seen cs) ++ (exchanged (drop i (seen cs)) (seen es)).0
    pub names : start.1 ≡ (exchanged (drop i (seen cs)) (seen es)).1
    pub places : HasNames (drop i (seen cs)) (seen es)
    pub long : length cs ≡ end

  module _ (start : List (List ℕ × Listing) × List (List ℕ × Listing)) (i : ℕ) (cs es : Entries A) (end : ℕ) (g : Going start i cs es end) (k : List ℕ) (other : code.Listing A) (at : slice_get cs i ≡ Some (k, other))
      (name : List ℕ) (key : name ≡ k) where
    first : drop i (seen cs) ≡ (name, listing_view other) ∷ drop (suc i) (seen cs)
    first = rw key (rest_at cs i k other at)

    known : has_name name (seen es) ≡ true
    known = g.places name (ap (has_name name) first ∙ by (bytes_eq name name) (own_name name))
      where
        by : (b : Bool) → b ≡ true → (b || has_name name (drop (suc i) (seen cs))) ≡ true
        by true e = refl
        by false e = cc

    pub turn : (own now back : code.Listing A) (after : Entries A) → lookup (is_key name) es ≡ Some own → now ≡ other → back ≡ own → after ≡ set_value (is_key name) es now
        → Going start (i + 1) (set_value_at cs i back) after end
    turn own now back after found_own is_other is_own set =
        let stood : listed name (seen es) ≡ listing_view back = ap or_unlisted (found_is name es ∙ ap (option_map listing_view) found_own) ∙ ap listing_view (sym is_own) in
        let put : seen after ≡ set_named name (listing_view other) (seen es) = ap seen set ∙ set_is name now es ∙ ap (λ (l : code.Listing A). set_named name (listing_view l) (seen es)) is_other in
        let later = exchanged (drop (suc i) (seen cs)) (set_named name (listing_view other) (seen es)) in
        let front : take (suc i) (seen (set_value_at cs i back)) ≡ take i (seen cs) ++ (name, listing_view back) ∷ [] = rw key (front_set cs i k other back at) in
        let step : exchanged (drop i (seen cs)) (seen es) ≡ ((name, listed name (seen es)) ∷ later.0, later.1) = ap (λ xs. exchanged xs (seen es)) first in
        let here : exchanged (drop (suc i) (seen (set_value_at cs i back))) (seen after) ≡ later = ap₂ exchanged (rest_set cs i back) put in
        rw (add-one i) (record {
          change =
              g.change
              ∙ ap (λ (x : List (List ℕ × Listing) × List (List ℕ × Listing)). take i (seen cs) ++ x.0) step
              ∙ ap (λ l. take i (seen cs) ++ (name, l) ∷ later.0) stood
              ∙ sym (append_assoc (take i (seen cs)) ((name, listing_view back) ∷ []) later.0)
              ∙ ap₂ (λ xs ys. xs ++ ys) (sym front) (ap (λ (x : List (List ℕ × Listing) × List (List ℕ × Listing)). x.0) (sym here));
          names = g.names ∙ ap (λ (x : List (List ℕ × Listing) × List (List ℕ × Listing)). x.1) step ∙ ap (λ (x : List (List ℕ × Listing) × List (List ℕ × Listing)). x.1) (sym here);
          places = λ n has.
              ap (has_name n) put ∙ has_set (seen es) n name (listing_view other)
              ∙ g.places n (ap (has_name n) first ∙ or_true (bytes_eq n name) (has_name n (drop (suc i) (seen cs))) (sym (ap (has_name n) (rest_set cs i back)) ∙ has));
          long = long_as cs i back ∙ g.long;
        })

    pub none_left : {P : Type 0} → lookup (is_key name) es ≡ None → P
    none_left none = let never : false ≡ true = sym (ap is_some none) ∙ sym (has_is name es) ∙ known in cc

  -- names that stand once each in a map
  has_keys : (n : List ℕ) (es : Entries A) → has_name n (seen es) ≡ list_any (λ (k : List ℕ). bytes_eq n k) (keys_of es)
  has_keys n [] = refl
  has_keys n (e ∷ es) = ap (λ b. bytes_eq n e.0 || b) (has_keys n es)

  none_equal : (n : List ℕ) (es : Entries A) → AllByRecursion (λ (k : List ℕ). bytes_eq n k ≡ false) (keys_of es) → has_name n (seen es) ≡ false
  none_equal n [] h = refl
  none_equal n (e ∷ es) h = ap₂ (λ a b. a || b) h.0 (none_equal n es h.1)

  pub are_apart : (es : Entries A) → IsDistinct (λ (a b : List ℕ). bytes_eq a b) (keys_of es) → AreApart (seen es)
  are_apart [] h = tt
  are_apart (e ∷ es) h =
      let eq = λ (a b : List ℕ). bytes_eq a b in
      (none_equal e.0 es (IsDistinct-head eq e.0 (keys_of es) h), are_apart es (IsDistinct-tail eq e.0 (keys_of es) h))

  pub all_left : (n : List ℕ) (es : Entries A) (left : List (List ℕ)) (there : Bool) → left ≡ keys_of es → has_name n (seen es) ≡ true → (list_any (λ (k : List ℕ). bytes_eq n k) left || there) ≡ true
  all_left n es left there is has = rw is (rw (← has_keys n es) (rw has refl))

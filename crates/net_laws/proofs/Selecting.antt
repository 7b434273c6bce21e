-- What is selected of a list, where some of its elements say nothing, and lists of which a part says nothing.
use Rattle.std.proofs.Common.{◌≡◌, Bool, true, false, ◌||◌, List, [], ◌∷◌, ◌++◌, filter, Option, None, refl, sym, ap, ◌∙◌, if◌then◌else◌}
use Rattle.std.specs.Prelude.{flat_map}
use Rattle.std.specs.List.{cons_option, filter_map, list_any}
use Rattle.std.proofs.lemmas.List.Elements.{filter-append}

-- what is selected of those that say something is selected of all
module _ {A B : Type 0} (says : A → Bool) (select : A → Option B) where
  kept_or_not : (b : Bool) (a : A) (left all : List A) → (b ≡ false → select a ≡ None) → filter_map select left ≡ filter_map select all
      → filter_map select (if b then a ∷ left else left) ≡ filter_map select (a ∷ all)
  kept_or_not true a left all none later = ap (cons_option (select a)) later
  kept_or_not false a left all none later = later ∙ ap (λ (b : Option B). cons_option b (filter_map select all)) (sym (none refl))

  pub selected_of_those : ((a : A) → says a ≡ false → select a ≡ None) → (all : List A) → filter_map select (filter says all) ≡ filter_map select all
  selected_of_those none [] = refl
  selected_of_those none (a ∷ all) = kept_or_not (says a) a (filter says all) all (none a) (selected_of_those none all)

-- of two lists that agree on those, the same is selected
pub selected_alike : {A B : Type 0} (says : A → Bool) (select : A → Option B) → ((a : A) → says a ≡ false → select a ≡ None) → (xs ys : List A) → filter says xs ≡ filter says ys
    → filter_map select xs ≡ filter_map select ys
selected_alike says select none xs ys same = sym (selected_of_those says select none xs) ∙ ap (filter_map select) same ∙ selected_of_those says select none ys

-- the same of lists
module _ {A B : Type 0} (says : A → Bool) (parts : A → List B) where
  listed_or_not : (b : Bool) (a : A) (left all : List A) → (b ≡ false → parts a ≡ []) → flat_map parts left ≡ flat_map parts all
      → flat_map parts (if b then a ∷ left else left) ≡ flat_map parts (a ∷ all)
  listed_or_not true a left all none later = ap (λ (bs : List B). parts a ++ bs) later
  listed_or_not false a left all none later = later ∙ ap (λ (bs : List B). bs ++ flat_map parts all) (sym (none refl))

  listed_of_those : ((a : A) → says a ≡ false → parts a ≡ []) → (all : List A) → flat_map parts (filter says all) ≡ flat_map parts all
  listed_of_those none [] = refl
  listed_of_those none (a ∷ all) = listed_or_not (says a) a (filter says all) all (none a) (listed_of_those none all)

  pub listed_alike : ((a : A) → says a ≡ false → parts a ≡ []) → (xs ys : List A) → filter says xs ≡ filter says ys → flat_map parts xs ≡ flat_map parts ys
  listed_alike none xs ys same = sym (listed_of_those none xs) ∙ ap (flat_map parts) same ∙ listed_of_those none ys

-- neither the first nor a later one passes a test
pub none_of_both : (b c : Bool) → (b || c) ≡ false → (b ≡ false) × (c ≡ false)
none_of_both true c h = absurd (cc)
none_of_both false c h = (refl, h)

-- none passes a test
module _ {A : Type 0} (test : A → Bool) where
  dropped : (b : Bool) (a : A) (all : List A) → b ≡ false → filter test all ≡ [] → (if b then a ∷ filter test all else filter test all) ≡ []
  dropped true a all h none = absurd (cc)
  dropped false a all h none = none

  pub none_pass : (all : List A) → list_any test all ≡ false → filter test all ≡ []
  none_pass [] h = refl
  none_pass (a ∷ all) h =
      let both = none_of_both (test a) (list_any test all) h in
      dropped (test a) a all both.0 (none_pass all both.1)

  -- what stands between others, and doesn't pass, makes no difference
  pub passes_around : (front some behind : List A) → list_any test some ≡ false → filter test (front ++ (some ++ behind)) ≡ filter test front ++ filter test behind
  passes_around front some behind h =
      filter-append test front (some ++ behind)
      ∙ ap (λ (l : List A). filter test front ++ l) (filter-append test some behind ∙ ap (λ (l : List A). l ++ filter test behind) (none_pass some h))

  pub exchanged_alike : (front out put behind : List A) → list_any test out ≡ false → list_any test put ≡ false
      → filter test (front ++ (out ++ behind)) ≡ filter test (front ++ (put ++ behind))
  exchanged_alike front out put behind g h = passes_around front out behind g ∙ sym (passes_around front put behind h)

-- what passes one test, and another with it, passes it among those that pass the other
module _ {A : Type 0} where
  pub within : (p t : A → Bool) → ((a : A) → p a ≡ true → t a ≡ true) → (all : List A) → filter p (filter t all) ≡ filter p all
  within p t follows [] = refl
  within p t follows (a ∷ all) = one (p a) (t a) refl refl (filter t all) (within p t follows all)
    where
      one : (b c : Bool) → p a ≡ b → t a ≡ c → (left : List A) → filter p left ≡ filter p all → filter p (if c then a ∷ left else left) ≡ (if b then a ∷ filter p all else filter p all)
      one true true h g left later = ap (λ (b : Bool). if b then a ∷ filter p left else filter p left) h ∙ ap (λ (l : List A). a ∷ l) later
      one false true h g left later = ap (λ (b : Bool). if b then a ∷ filter p left else filter p left) h ∙ later
      one true false h g left later = absurd (let no = follows a h in cc)
      one false false h g left later = later

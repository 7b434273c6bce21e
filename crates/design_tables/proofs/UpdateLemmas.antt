-- What stands under names after one is given something else.
use Rattle.std.proofs.Common.{◌≡◌, ℕ, zero, suc, Bool, true, false, cond, if◌then◌else◌, not, ◌||◌, List, [], ◌∷◌, map, refl, sym, ap, subst, ◌∙◌, Option, Some, None, is_some}
use Rattle.std.specs.Cmp.Lexicographic.{nat_list_eq_equiv}
use Rattle.std.specs.List.{slice_get}
use Rattle.std.specs.Map.{lookup}
use Rattle.std.specs.Option.{option_map}
use Rattle.std.specs.Str.{bytes_eq}
use Rattle.indexmap.specs.IndexMap.{IndexMap, IsUnique, Updates}
use Rattle.indexmap.specs.Layout.{set_value_at}
use Rattle.indexmap.proofs.CallerLemmas.{updates-with_value_at}
use Rattle.design_tables.specs.Listings.{Listing, found, has_name, listed, marks_named, or_unlisted, unlisted, with_marks}
use Rattle.design_tables.specs.ListingViews.{listing_view, named_view}
use Rattle.design_tables.specs.declared.names.Listing as code
use Rattle.design_tables.specs.declared.role.Mark.{Mark}
use Rattle.design_tables.proofs.ListingLemmas.{found_is, is_key, named_one, none_more, own_name, same_name}

-- a table has this under a name, and under each other name what another table has
pub record HasAt (name : List ℕ) (now : Listing) (before after : List (List ℕ × Listing)) : Type 0 where
  pub at : (n : List ℕ) → found n after ≡ (if bytes_eq name n then Some now else found n before)

module _ {A S : Type 0} (m : IndexMap (List ℕ) (code.Listing A) S) (name : List ℕ) (l : code.Listing A) where
  looked_up : (n : List ℕ) (b : Bool) → option_map listing_view (cond b (Some l) (lookup (bytes_eq n) m.entries)) ≡ (if b then Some (listing_view l) else found n (map named_view m.entries))
  looked_up n true = refl
  looked_up n false = sym (found_is n m.entries)

  -- a name is given something
  updated : (after : IndexMap (List ℕ) (code.Listing A) S) → Updates (λ (a b : List ℕ). bytes_eq a b) m after name (Some l) → HasAt name (listing_view l) (map named_view m.entries) (map named_view after.entries)
  updated after updates = record { at = λ n. found_is n after.entries ∙ ap (option_map listing_view) (updates.0 n) ∙ looked_up n (bytes_eq name n) }

  -- what a name has is written at its place
  written : (i : ℕ) (had : code.Listing A) → IsUnique (λ (a b : List ℕ). bytes_eq a b) m → slice_get m.entries i ≡ Some (name, had) → HasAt name (listing_view l) (map named_view m.entries) (map named_view (set_value_at m.entries i l))
  written i had unique at = record { at = λ n. found_is n (set_value_at m.entries i l) ∙ ap (option_map listing_view) ((updates-with_value_at m i l nat_list_eq_equiv unique name had at).0 n) ∙ looked_up n (bytes_eq name n) }

-- what is written where it stood changes nothing
module _ {K V : Type 0} where
  pub same_at : (es : List (K × V)) (i : ℕ) (k : K) (v : V) → slice_get es i ≡ Some (k, v) → set_value_at es i v ≡ es
  same_at [] i k v at = refl
  same_at (e ∷ es) zero k v at = let same : e ≡ (k, v) = cc in ap (λ (x : K × V). (e.0, x.1) ∷ es) (sym same)
  same_at (e ∷ es) (suc i) k v at = ap (λ xs. e ∷ xs) (same_at es i k v at)

has_found_step : (b r : Bool) (l : Listing) (o : Option Listing) → r ≡ is_some o → (b || r) ≡ is_some (if b then Some l else o)
has_found_step true r l o h = refl
has_found_step false r l o h = h

has_found : (n : List ℕ) (es : List (List ℕ × Listing)) → has_name n es ≡ is_some (found n es)
has_found n [] = refl
has_found n (e ∷ es) = has_found_step (bytes_eq n e.0) (has_name n es) e.1 (found n es) (has_found n es)

-- one mark more under a name
mark_put : (before after : List (List ℕ × Listing)) (name : List ℕ) (mark : Mark) (now : Listing) → HasAt name now before after → now ≡ with_marks (mark ∷ []) (listed name before)
    → (n : List ℕ) → listed n after ≡ with_marks (marks_named n ((name, mark) ∷ [])) (listed n before)
mark_put before after name mark now has is n = ap or_unlisted (has.at n) ∙ by (bytes_eq name n) refl ∙ ap (λ ms. with_marks ms (listed n before)) (sym (named_one n name mark))
  where
    by : (b : Bool) → bytes_eq name n ≡ b → or_unlisted (if b then Some now else found n before) ≡ with_marks (if b then mark ∷ [] else []) (listed n before)
    by true same = is ∙ ap (λ k. with_marks (mark ∷ []) (listed k before)) (same_name name n same)
    by false other = sym (none_more (listed n before))

-- the mark is put at the place of the name
module _ {A S : Type 0} (m : IndexMap (List ℕ) (code.Listing A) S) (i : ℕ) (key : List ℕ) (had : code.Listing A) (unique : IsUnique (λ (a b : List ℕ). bytes_eq a b) m) (at : slice_get m.entries i ≡ Some (key, had)) where
  stands : found key (map named_view m.entries) ≡ Some (listing_view had)
  stands =
      ap (λ es. found key (map named_view es)) (sym (same_at m.entries i key had at))
      ∙ (written m key had i had unique at).at key
      ∙ ap (λ b. if b then Some (listing_view had) else found key (map named_view m.entries)) (own_name key)

  pub put_there : (name : List ℕ) (mark : Mark) (l : code.Listing A) → bytes_eq key name ≡ true → listing_view l ≡ with_marks (mark ∷ []) (listing_view had)
      → (n : List ℕ) → listed n (map named_view (set_value_at m.entries i l)) ≡ with_marks (marks_named n ((name, mark) ∷ [])) (listed n (map named_view m.entries))
  put_there name mark l same is = subst
      (λ (k : List ℕ). (n : List ℕ) → listed n (map named_view (set_value_at m.entries i l)) ≡ with_marks (marks_named n ((k, mark) ∷ [])) (listed n (map named_view m.entries)))
      (same_name key name same)
      (mark_put (map named_view m.entries) (map named_view (set_value_at m.entries i l)) key mark (listing_view l) (written m key l i had unique at) (is ∙ ap (λ o. with_marks (mark ∷ []) (or_unlisted o)) (sym stands)))

-- a name is put, and what stood there comes back
module _ {A S : Type 0} (m after : IndexMap (List ℕ) (code.Listing A) S) (before : List (List ℕ × Listing)) (seen : map named_view m.entries ≡ before) (name key : List ℕ) (same : key ≡ name) (l : code.Listing A)
    (updates : Updates (λ (a b : List ℕ). bytes_eq a b) m after key (Some l)) where
  given : HasAt name (listing_view l) before (map named_view after.entries)
  given = rw (← seen, ← same) (updated m key l after updates)

  pub given_is : (now : Listing) → listing_view l ≡ now → (n : List ℕ) → found n (map named_view after.entries) ≡ (if bytes_eq name n then Some now else found n before)
  given_is now is n = given.at n ∙ ap (λ k. if bytes_eq name n then Some k else found n before) is

  module _ (mark : Mark) (o : Option (code.Listing A)) (old : o ≡ lookup (is_key key) m.entries) where
    stood : found name before ≡ option_map listing_view o
    stood = rw (← seen, ← same) (found_is key m.entries ∙ ap (option_map listing_view) (sym old))

    some_is : (p : Option (code.Listing A)) → is_some (option_map listing_view p) ≡ is_some p
    some_is None = refl
    some_is (Some k) = refl

    pub was_new : (b : Bool) → is_some o ≡ b → not b ≡ not (has_name name before)
    was_new b is = sym (ap not (has_found name before ∙ ap is_some stood ∙ some_is o ∙ is))

    pub new_put : listing_view l ≡ with_marks (mark ∷ []) unlisted → o ≡ None → (n : List ℕ) → listed n (map named_view after.entries) ≡ with_marks (marks_named n ((name, mark) ∷ [])) (listed n before)
    new_put is none = mark_put before (map named_view after.entries) name mark (listing_view l) given (is ∙ ap (λ p. with_marks (mark ∷ []) (or_unlisted p)) (sym (stood ∙ ap (option_map listing_view) none)))

    pub old_put : (s : code.Listing A) (last : List (List ℕ × Listing)) → o ≡ Some s → ((n : List ℕ) → found n last ≡ (if bytes_eq name n then Some (with_marks (mark ∷ []) (listing_view s)) else found n (map named_view after.entries)))
        → (n : List ℕ) → listed n last ≡ with_marks (marks_named n ((name, mark) ∷ [])) (listed n before)
    old_put s last some back = mark_put before last name mark now (record { at = λ n. back n ∙ by n (bytes_eq name n) refl }) (ap (λ p. with_marks (mark ∷ []) (or_unlisted p)) (sym (stood ∙ ap (option_map listing_view) some)))
      where
        now : Listing
        now = with_marks (mark ∷ []) (listing_view s)

        by : (n : List ℕ) (b : Bool) → bytes_eq name n ≡ b → (if b then Some (with_marks (mark ∷ []) (listing_view s)) else found n (map named_view after.entries)) ≡ (if b then Some (with_marks (mark ∷ []) (listing_view s)) else found n before)
        by n true is = refl
        by n false is = given.at n ∙ ap (λ b. if b then Some (listing_view l) else found n before) is

-- Names of a table, and what stands under them.
use Rattle.std.proofs.Common.{◌≡◌, ℕ, Bool, true, false, cond, if◌then◌else◌, ◌||◌, List, [], ◌∷◌, ◌++◌, map, refl, sym, ap, ap₂, ◌∙◌, Option, Some, None, is_some, Result, Ok, Err, Bor, MutBor, arith}
use Rattle.std.specs.Prelude.{OnOk}
use Rattle.std.specs.Map.{lookup, set_value}
use Rattle.std.specs.Option.{option_copied_mut, option_map}
use Rattle.std.specs.Str.{bytes_eq}
use Rattle.std.proofs.lemmas.List.{append-nil, map-append}
use Rattle.std.proofs.lemmas.Slice.Eq.{bytes_eq-Decides}
use Rattle.indexmap.specs.IndexMap.{IndexMap, insert_entry}
use Rattle.indexmap.proofs.CallerLemmas.{insert_entry-new}
use Rattle.design_tables.specs.Changes.{less, or_else_listed}
use Rattle.design_tables.specs.Listings.{Listing, found, has_name, listed, marks_named, or_unlisted, unlisted, with_marks}
use Rattle.design_tables.specs.Prepared.{set_named}
use Rattle.design_tables.specs.ListingViews.{listing_view, named_view}
use Rattle.design_tables.specs.declared.names.Listing as code
use Rattle.design_tables.specs.declared.role.Mark.{Mark}

pub same_name : (a b : List ℕ) → bytes_eq a b ≡ true → a ≡ b
same_name a b t = grind (arith, bytes_eq-Decides)

pub or_true : (a b : Bool) → b ≡ true → (a || b) ≡ true
or_true true b e = refl
or_true false b e = e

pub or_both : (a b : Bool) → (a || b) ≡ false → (a ≡ false) × (b ≡ false)
or_both false false e = (refl, refl)
or_both true b e = cc
or_both false true e = cc

pub none_of : {X : Type 0} (o : Option X) (b : Bool) → b ≡ false → b ≡ is_some o → o ≡ None
none_of None b f e = refl
none_of (Some x) b f e = cc

pub own_name : (a : List ℕ) → bytes_eq a a ≡ true
own_name a = grind (arith, bytes_eq-Decides)

pub bytes_eq_sym : (a b : List ℕ) → bytes_eq a b ≡ bytes_eq b a
bytes_eq_sym a b = grind (arith, bytes_eq-Decides)

abbrev pub is_key : List ℕ → List ℕ → Bool
is_key name k = bytes_eq name k

module _ {A : Type 0} where
  found_step : (b : Bool) (l : code.Listing A) (later : Option Listing) (o : Option (code.Listing A)) → later ≡ option_map listing_view o
      → (if b then Some (listing_view l) else later) ≡ option_map listing_view (cond b (Some l) o)
  found_step true l later o h = refl
  found_step false l later o h = h

  -- a look-up in the table finds what stands under a name
  pub found_is : (name : List ℕ) (es : List (List ℕ × code.Listing A)) → found name (map named_view es) ≡ option_map listing_view (lookup (is_key name) es)
  found_is name [] = refl
  found_is name (e ∷ es) = found_step (is_key name e.0) e.1 (found name (map named_view es)) (lookup (is_key name) es) (found_is name es)

  pub found_lent : (o : Option (Bor (code.Listing A))) (p : Option (code.Listing A)) → option_map (λ (l : Bor (code.Listing A)). l.now) o ≡ p → option_map (λ (l : Bor (code.Listing A)). listing_view l.now) o ≡ option_map listing_view p
  found_lent None None h = refl
  found_lent (Some l) (Some m) h = cc
  found_lent None (Some m) h = cc
  found_lent (Some l) None h = cc

  has_step : (b r : Bool) (l : code.Listing A) (o : Option (code.Listing A)) → r ≡ is_some o → (b || r) ≡ is_some (cond b (Some l) o)
  has_step true r l o h = refl
  has_step false r l o h = h

  pub has_is : (name : List ℕ) (es : List (List ℕ × code.Listing A)) → has_name name (map named_view es) ≡ is_some (lookup (is_key name) es)
  has_is name [] = refl
  has_is name (e ∷ es) = has_step (is_key name e.0) (has_name name (map named_view es)) e.1 (lookup (is_key name) es) (has_is name es)

  -- a name that is new goes last
  pub named_last : (es : List (List ℕ × code.Listing A)) (k : List ℕ) (l : code.Listing A) (name : List ℕ) (left : Listing) → k ≡ name → listing_view l ≡ left
      → map named_view (es ++ (k, l) ∷ []) ≡ map named_view es ++ (name, left) ∷ []
  named_last es k l name left key view = rw (map-append named_view es ((k, l) ∷ []), key, view) refl

  -- a name that a look-up doesn't find gets a place
  pub placed : {S : Type 0} (name : List ℕ) (left : Listing) (m : IndexMap (List ℕ) (code.Listing A) S) (k : List ℕ) (l : code.Listing A) (after : List (List ℕ × code.Listing A)) → k ≡ name → listing_view l ≡ left
      → lookup (is_key name) m.entries ≡ None → after ≡ insert_entry (λ (a b : List ℕ). is_key a b) m.entries k l → map named_view after ≡ map named_view m.entries ++ (name, left) ∷ []
  placed name left m k l after key view none put =
      ap (map named_view) (put ∙ insert_entry-new (λ (a b : List ℕ). is_key a b) m k l (rw key none)) ∙ named_last m.entries k l name left key view

  set_step : (b : Bool) (name : List ℕ) (e : List ℕ × code.Listing A) (es rest : List (List ℕ × code.Listing A)) (l : code.Listing A) (later : List (List ℕ × Listing)) → map named_view rest ≡ later
      → map named_view (cond b ((e.0, l) ∷ es) (e ∷ rest)) ≡ (if b then (e.0, listing_view l) ∷ map named_view es else named_view e ∷ later)
  set_step true name e es rest l later h = refl
  set_step false name e es rest l later h = ap (λ xs. named_view e ∷ xs) h

  pub set_is : (name : List ℕ) (l : code.Listing A) (es : List (List ℕ × code.Listing A)) → map named_view (set_value (is_key name) es l) ≡ set_named name (listing_view l) (map named_view es)
  set_is name l [] = refl
  set_is name l (e ∷ es) = set_step (is_key name e.0) name e es (set_value (is_key name) es l) l (set_named name (listing_view l) (map named_view es)) (set_is name l es)

pub known_name : (es : List (List ℕ × Listing)) (n name : List ℕ) → has_name name es ≡ true → has_name n es ≡ (has_name n es || bytes_eq n name)
known_name es n name known = by (bytes_eq n name) refl
  where
    by : (b : Bool) → bytes_eq n name ≡ b → has_name n es ≡ (has_name n es || b)
    by false e = grind arith
    by true e = let there : has_name n es ≡ true = ap (λ k. has_name k es) (same_name n name e) ∙ known in rw there refl

last_step : (b : Bool) (l : Listing) (later there : Option Listing) → or_unlisted later ≡ or_unlisted there → or_unlisted (if b then Some l else later) ≡ or_unlisted (if b then Some l else there)
last_step true l later there h = refl
last_step false l later there h = h

pub listed_last : (es : List (List ℕ × Listing)) (n name : List ℕ) → listed n (es ++ (name, unlisted) ∷ []) ≡ listed n es
listed_last [] n name = by (bytes_eq n name)
  where
    by : (b : Bool) → or_unlisted (if b then Some unlisted else None) ≡ unlisted
    by true = refl
    by false = refl
listed_last (e ∷ es) n name = last_step (bytes_eq n e.0) e.1 (found n (es ++ (name, unlisted) ∷ [])) (found n es) (listed_last es n name)

pub has_last : (es : List (List ℕ × Listing)) (n name : List ℕ) (l : Listing) → has_name n (es ++ (name, l) ∷ []) ≡ (has_name n es || bytes_eq n name)
has_last [] n name l = grind arith
has_last (e ∷ es) n name l = grind (arith, has_last es n name l)

found_has_step : (b r : Bool) (l had : Listing) (o : Option Listing) → (o ≡ Some had → r ≡ true) → (if b then Some l else o) ≡ Some had → (b || r) ≡ true
found_has_step true r l had o h is = refl
found_has_step false r l had o h is = h is

pub found_has : (es : List (List ℕ × Listing)) (name : List ℕ) (had : Listing) → found name es ≡ Some had → has_name name es ≡ true
found_has [] name had is = cc
found_has (e ∷ es) name had is = found_has_step (bytes_eq name e.0) (has_name name es) e.1 had (found name es) (found_has es name had) is

pub on_ok : {X E P Q : Type 0} (r : Result X E) → (P → Q) → OnOk r P → OnOk r Q
on_ok (Ok x) f p = f p
on_ok (Err e) f p = p

-- what stands under names where one has something else
pub listed_set : (es : List (List ℕ × Listing)) (n name : List ℕ) (l : Listing) → has_name name es ≡ true → listed n (set_named name l es) ≡ (if bytes_eq name n then l else listed n es)
listed_set [] n name l there = cc
listed_set (e ∷ es) n name l there = by (bytes_eq name e.0) refl (bytes_eq name n) refl (listed_set es n name l)
  where
    by : (b : Bool) → bytes_eq name e.0 ≡ b → (c : Bool) → bytes_eq name n ≡ c → (has_name name es ≡ true → listed n (set_named name l es) ≡ (if c then l else listed n es))
        → listed n (if b then (e.0, l) ∷ es else e ∷ set_named name l es) ≡ (if c then l else listed n (e ∷ es))
    by true at true is later = let here : bytes_eq n e.0 ≡ true = rw (← same_name name n is) at in rw here refl
    by true at false is later =
        let other : bytes_eq n e.0 ≡ false = rw (← same_name name e.0 at) (bytes_eq_sym n name ∙ is) in
        rw other refl
    by false at true is later =
        let other : bytes_eq n e.0 ≡ false = rw (← same_name name n is) at in
        rw other (later (rw at at there))
    by false at false is later = last_step (bytes_eq n e.0) e.1 _ _ (later (rw at at there))

pub none_more : (l : Listing) → with_marks [] l ≡ l
none_more l = ap₂ (λ ms k. record { marks = ms; entries = k }) (append-nil l.marks) (omega arith)

pub named_one : (n name : List ℕ) (m : Mark) → marks_named n ((name, m) ∷ []) ≡ (if bytes_eq name n then m ∷ [] else [])
named_one n name m = by (bytes_eq name n)
  where
    by : (b : Bool) → map (λ (x : List ℕ × Mark). x.1) (if b then (name, m) ∷ [] else []) ≡ (if b then m ∷ [] else [])
    by true = refl
    by false = refl

-- one mark more under a name
pub listed_put : (before es after : List (List ℕ × Listing)) (name : List ℕ) (m : Mark) (had now : Listing) → ((n : List ℕ) → listed n es ≡ listed n before) → found name es ≡ Some had
    → now ≡ with_marks (m ∷ []) had → after ≡ set_named name now es → (n : List ℕ) → listed n after ≡ with_marks (marks_named n ((name, m) ∷ [])) (listed n before)
listed_put before es after name m had now same at put set n =
    ap (listed n) set ∙ listed_set es n name now (found_has es name had at) ∙ by (bytes_eq name n) refl ∙ ap (λ ms. with_marks ms (listed n before)) (sym (named_one n name m))
  where
    by : (b : Bool) → bytes_eq name n ≡ b → (if b then now else listed n es) ≡ with_marks (if b then m ∷ [] else []) (listed n before)
    by true is =
        let here : listed n es ≡ had = ap (λ k. listed k es) (sym (same_name name n is)) ∙ ap or_unlisted at in
        put ∙ ap (with_marks (m ∷ [])) (sym here ∙ same n)
    by false is = same n ∙ sym (none_more (listed n before))

module _ {X : Type 0} where
  pub looked_up : (o : Option (MutBor X)) (p : Option X) (x : MutBor X) → o ≡ Some x → option_copied_mut o ≡ p → p ≡ Some x.now
  looked_up o p x is value = sym value ∙ ap option_copied_mut is

  pub looked_none : (o : Option (MutBor X)) (p : Option X) → o ≡ None → option_copied_mut o ≡ p → p ≡ None
  looked_none o p is value = sym value ∙ ap option_copied_mut is

pub has_set : (es : List (List ℕ × Listing)) (n name : List ℕ) (l : Listing) → has_name n (set_named name l es) ≡ has_name n es
has_set [] n name l = refl
has_set (e ∷ es) n name l = by (bytes_eq name e.0) (has_set es n name l)
  where
    by : (b : Bool) → has_name n (set_named name l es) ≡ has_name n es → has_name n (if b then (e.0, l) ∷ es else e ∷ set_named name l es) ≡ (bytes_eq n e.0 || has_name n es)
    by true h = refl
    by false h = ap (λ d. bytes_eq n e.0 || d) h

found_none_step : (b r : Bool) (l : Listing) (o : Option Listing) → (r ≡ false → o ≡ None) → (b || r) ≡ false → (if b then Some l else o) ≡ None
found_none_step true r l o h is = cc
found_none_step false r l o h is = h is

pub found_none : (es : List (List ℕ × Listing)) (name : List ℕ) → has_name name es ≡ false → found name es ≡ None
found_none [] name is = refl
found_none (e ∷ es) name is = found_none_step (bytes_eq name e.0) (has_name name es) e.1 (found name es) (found_none es name) is

found_some_step : (b r : Bool) (l : Listing) (o : Option Listing) → (r ≡ true → o ≡ Some (or_unlisted o)) → (b || r) ≡ true → (if b then Some l else o) ≡ Some (or_unlisted (if b then Some l else o))
found_some_step true r l o h is = refl
found_some_step false r l o h is = h is

pub found_some : (es : List (List ℕ × Listing)) (name : List ℕ) → has_name name es ≡ true → found name es ≡ Some (listed name es)
found_some [] name is = cc
found_some (e ∷ es) name is = found_some_step (bytes_eq name e.0) (has_name name es) e.1 (found name es) (found_some es name) is

-- one table before another
append_step : (b : Bool) (l : Listing) (o p q : Option Listing) → or_unlisted q ≡ or_else_listed o (or_unlisted p) → or_unlisted (if b then Some l else q) ≡ or_else_listed (if b then Some l else o) (or_unlisted p)
append_step true l o p q h = refl
append_step false l o p q h = h

pub listed_both : (n : List ℕ) (es fs : List (List ℕ × Listing)) → listed n (es ++ fs) ≡ or_else_listed (found n es) (listed n fs)
listed_both n [] fs = refl
listed_both n (e ∷ es) fs = append_step (bytes_eq n e.0) e.1 (found n es) (found n fs) (found n (es ++ fs)) (listed_both n es fs)

pub listed_one : (n name : List ℕ) (l : Listing) → listed n ((name, l) ∷ []) ≡ (if bytes_eq n name then l else unlisted)
listed_one n name l = by (bytes_eq n name)
  where
    by : (b : Bool) → or_unlisted (if b then Some l else None) ≡ (if b then l else unlisted)
    by true = refl
    by false = refl

-- one entry less
pub counted_set : (before es after : List (List ℕ × Listing)) (n name : List ℕ) (had now : Listing) → es ≡ before → found name es ≡ Some had → now ≡ less 1 had → after ≡ set_named name now es
    → listed n after ≡ (if bytes_eq name n then less 1 (listed n before) else listed n before)
counted_set before es after n name had now same at counted set = ap (listed n) set ∙ listed_set es n name now (found_has es name had at) ∙ by (bytes_eq name n) refl
  where
    by : (b : Bool) → bytes_eq name n ≡ b → (if b then now else listed n es) ≡ (if b then less 1 (listed n before) else listed n before)
    by true is = counted ∙ ap (less 1) (sym (ap or_unlisted at) ∙ ap (λ k. listed k es) (same_name name n is) ∙ ap (listed n) same)
    by false is = ap (listed n) same

pub counted_none : (before es : List (List ℕ × Listing)) (n name : List ℕ) → es ≡ before → found name es ≡ None → listed n es ≡ (if bytes_eq name n then less 1 (listed n before) else listed n before)
counted_none before es n name same at = by (bytes_eq name n) refl
  where
    by : (b : Bool) → bytes_eq name n ≡ b → listed n es ≡ (if b then less 1 (listed n before) else listed n before)
    by true is =
        let none : listed n es ≡ unlisted = ap (λ k. listed k es) (sym (same_name name n is)) ∙ ap or_unlisted at in
        none ∙ ap (less 1) (sym none ∙ ap (listed n) same)
    by false is = ap (listed n) same

-- nothing is copied under a name that has a place
pub copied_there : (es : List (List ℕ × Listing)) (n name : List ℕ) (l : Listing) → has_name name es ≡ true → listed n es ≡ or_else_listed (found n es) (if bytes_eq n name then l else unlisted)
copied_there es n name l there = by (found n es) refl (bytes_eq n name) refl
  where
    by : (o : Option Listing) → found n es ≡ o → (b : Bool) → bytes_eq n name ≡ b → or_unlisted o ≡ or_else_listed o (if b then l else unlisted)
    by (Some k) at b is = refl
    by None at false is = refl
    by None at true is =
        let some : found n es ≡ Some (listed n es) = found_some es n (ap (λ k. has_name k es) (same_name n name is) ∙ there) in
        let never : Some (listed n es) ≡ None = sym some ∙ at in
        cc

-- one mark under a name that has no place
pub listed_new : (es : List (List ℕ × Listing)) (n name : List ℕ) (m : Mark) → has_name name es ≡ false
    → or_else_listed (found n es) (if bytes_eq n name then with_marks (m ∷ []) unlisted else unlisted) ≡ with_marks (marks_named n ((name, m) ∷ [])) (listed n es)
listed_new es n name m none = by (bytes_eq name n) refl ∙ ap (λ ms. with_marks ms (listed n es)) (sym (named_one n name m))
  where
    or_nothing : (o : Option Listing) → or_else_listed o unlisted ≡ or_unlisted o
    or_nothing None = refl
    or_nothing (Some l) = refl

    by : (b : Bool) → bytes_eq name n ≡ b → or_else_listed (found n es) (if bytes_eq n name then with_marks (m ∷ []) unlisted else unlisted) ≡ with_marks (if b then m ∷ [] else []) (listed n es)
    by true is =
        let absent : found n es ≡ None = found_none es n (ap (λ k. has_name k es) (sym (same_name name n is)) ∙ none) in
        let here : bytes_eq n name ≡ true = bytes_eq_sym n name ∙ is in
        rw (absent, here) refl
    by false is =
        let other : bytes_eq n name ≡ false = bytes_eq_sym n name ∙ is in
        ap (λ b. or_else_listed (found n es) (if b then with_marks (m ∷ []) unlisted else unlisted)) other ∙ or_nothing (found n es) ∙ sym (none_more (listed n es))

-- A change that was committed is the change back.
use Rattle.std.proofs.Common.{◌≡◌, ℕ, Bool, true, false, if◌then◌else◌, ◌||◌, List, [], ◌∷◌, ◌++◌, refl, sym, ap, ◌∙◌, Some, None}
use Rattle.std.specs.Str.{bytes_eq}
use Rattle.design_model.specs.declared.identifier.StmtId.{StmtId}
use Rattle.def_grammar.specs.Records.{Record}
use Rattle.design_tables.specs.Changes.{or_else_listed}
use Rattle.design_tables.specs.Listings.{Listing, found, has_name, listed, or_unlisted}
use Rattle.design_tables.specs.Prepared.{AreApart, HasNames, IsBetween, exchanged, set_named}
use Rattle.design_tables.proofs.ListingLemmas.{bytes_eq_sym, found_none, has_set, listed_both, listed_set, or_true, own_name, same_name}

abbrev Table : Type 0
Table = List (List ℕ × Listing)

has_change : (n : List ℕ) (cs es : Table) → has_name n (exchanged cs es).0 ≡ has_name n cs
has_change n [] es = refl
has_change n (c ∷ cs) es = ap (λ b. bytes_eq n c.0 || b) (has_change n cs (set_named c.0 c.1 es))

has_names : (n : List ℕ) (cs es : Table) → has_name n (exchanged cs es).1 ≡ has_name n es
has_names n [] es = refl
has_names n (c ∷ cs) es = has_names n cs (set_named c.0 c.1 es) ∙ has_set es n c.0 c.1

apart_change : (cs es : Table) → AreApart cs → AreApart (exchanged cs es).0
apart_change [] es h = tt
apart_change (c ∷ cs) es h = (has_change c.0 cs (set_named c.0 c.1 es) ∙ h.0, apart_change cs (set_named c.0 c.1 es) h.1)

first_known : (c : List ℕ × Listing) (cs es : Table) → HasNames (c ∷ cs) es → has_name c.0 es ≡ true
first_known c cs es known = known c.0 (by (bytes_eq c.0 c.0) (own_name c.0))
  where
    by : (b : Bool) → b ≡ true → (b || has_name c.0 cs) ≡ true
    by true e = refl
    by false e = cc

others_known : (c : List ℕ × Listing) (cs es : Table) → HasNames (c ∷ cs) es → HasNames cs (set_named c.0 c.1 es)
others_known c cs es known n has = has_set es n c.0 c.1 ∙ known n (or_true (bytes_eq n c.0) (has_name n cs) has)

-- what stands under a name in the table after
names_after : (n : List ℕ) (cs es : Table) → AreApart cs → HasNames cs es → listed n (exchanged cs es).1 ≡ listed n (cs ++ es)
names_after n [] es apart known = refl
names_after n (c ∷ cs) es apart known =
    names_after n cs (set_named c.0 c.1 es) apart.1 (others_known c cs es known)
    ∙ listed_both n cs (set_named c.0 c.1 es)
    ∙ ap (or_else_listed (found n cs)) (listed_set es n c.0 c.1 (first_known c cs es known))
    ∙ by (bytes_eq c.0 n) refl
  where
    by : (b : Bool) → bytes_eq c.0 n ≡ b → or_else_listed (found n cs) (if b then c.1 else listed n es) ≡ or_unlisted (if bytes_eq n c.0 then Some c.1 else found n (cs ++ es))
    by true is =
        let none : found n cs ≡ None = found_none cs n (ap (λ k. has_name k cs) (sym (same_name c.0 n is)) ∙ apart.0) in
        let here : bytes_eq n c.0 ≡ true = bytes_eq_sym n c.0 ∙ is in
        rw (none, here) refl
    by false is =
        let other : bytes_eq n c.0 ≡ false = bytes_eq_sym n c.0 ∙ is in
        rw other (sym (listed_both n cs es))

-- and in the change after
change_after : (n : List ℕ) (cs es : Table) → HasNames cs es → has_name n cs ≡ true → found n (exchanged cs es).0 ≡ Some (listed n es)
change_after n [] es known has = cc
change_after n (c ∷ cs) es known has = by (bytes_eq n c.0) refl (λ later. change_after n cs (set_named c.0 c.1 es) (others_known c cs es known) later)
  where
    by : (b : Bool) → bytes_eq n c.0 ≡ b → (has_name n cs ≡ true → found n (exchanged cs (set_named c.0 c.1 es)).0 ≡ Some (listed n (set_named c.0 c.1 es)))
        → (if b then Some (listed c.0 es) else found n (exchanged cs (set_named c.0 c.1 es)).0) ≡ Some (listed n es)
    by true is later = ap (λ k. Some (listed k es)) (sym (same_name n c.0 is))
    by false is later =
        let other : bytes_eq c.0 n ≡ false = bytes_eq_sym c.0 n ∙ is in
        later (rw is at has) ∙ ap (λ (l : Listing). Some l) (listed_set es n c.0 c.1 (first_known c cs es known) ∙ ap (λ b. if b then c.1 else listed n es) other)

back_after : (n : List ℕ) (cs es : Table) → AreApart cs → HasNames cs es → listed n ((exchanged cs es).0 ++ (exchanged cs es).1) ≡ listed n es
back_after n cs es apart known = listed_both n (exchanged cs es).0 (exchanged cs es).1 ∙ by (has_name n cs) refl
  where
    by : (b : Bool) → has_name n cs ≡ b → or_else_listed (found n (exchanged cs es).0) (listed n (exchanged cs es).1) ≡ listed n es
    by true has = ap (λ o. or_else_listed o (listed n (exchanged cs es).1)) (change_after n cs es known has)
    by false none =
        ap (λ o. or_else_listed o (listed n (exchanged cs es).1)) (found_none (exchanged cs es).0 n (has_change n cs es ∙ none))
        ∙ names_after n cs es apart known
        ∙ listed_both n cs es
        ∙ ap (λ o. or_else_listed o (listed n es)) (found_none cs n none)

pub turned : (names change new_names new_change : Table) (base other : List (StmtId × Record)) → IsBetween names change base other → new_change ≡ (exchanged change names).0 → new_names ≡ (exchanged change names).1
    → IsBetween new_names new_change other base
turned names change new_names new_change base other is e f = rw (e, f) (record {
  base_is = λ n. rw (names_after n change names is.apart is.places) (is.other_is n);
  other_is = λ n. rw (back_after n change names is.apart is.places) (is.base_is n);
  apart = apart_change change names is.apart;
  places = λ n has. has_names n change names ∙ is.places n (sym (has_change n change names) ∙ has);
})

-- A change makes what a text has once stand twice, or leaves none of UNITS, exactly where the table of its names says so.
use Rattle.std.proofs.Common.{◌≡◌, ◌≢◌, ◌≤◌, ◌<◌, ◌⊎◌, inl, inr, ℕ, ◌+◌, Bool, true, false, cond, eqb, ltb, not, ◌&&◌, ◌||◌, List, [], ◌∷◌, ◌++◌, refl, sym, ap, ap₂, ◌∙◌, Option, Some, None, ⊎_elim, arith, true≢false}
use Rattle.std.specs.Prelude.{codes, count_by, flat_map, nat_lt, sum_by}
use Rattle.std.specs.List.{list_any}
use Rattle.std.specs.Str.{bytes_eq}
use Rattle.std.proofs.lemmas.Bool.Decides.{nat_tests}
use Rattle.std.proofs.lemmas.List.{map-append}
use Rattle.std.proofs.lemmas.List.Sums.{sum_by-cons}
use Rattle.design_model.specs.declared.identifier.StmtId.{StmtId}
use Rattle.statement_model.specs.Grammar.{Key}
use Rattle.statement_model.specs.Reading.{is_among, same_words}
use Rattle.def_grammar.specs.Records.{Record, key_of}
use Rattle.design_tables.specs.Changes.{IsEdited, has_number, or_else_listed}
use Rattle.design_tables.specs.Listings.{AreTablesOf, Listing, has_name, is_member, listed, marks_in, marks_under, or_unlisted}
use Rattle.design_tables.specs.Marks.{key_mark, same_role}
use Rattle.design_tables.specs.Prepared.{AreKeyed, IsKept, count_in, has_none, is_repeated, is_twice, keys_of, lacks_units}
use Rattle.design_tables.specs.declared.role.Mark.{Mark}
use Rattle.design_tables.specs.declared.role.Role.{Role}
use Rattle.design_tables.specs.declared.role.Role.TheVariants as roles
use Rattle.design_tables.proofs.ChangeLemmas.{count_filter}
use Rattle.design_tables.proofs.CountLemmas.{count_both}
use Rattle.design_tables.proofs.KeyLemmas.{Counts, CountsOf, counts_of, word_counts}
use Rattle.design_tables.proofs.ListingLemmas.{found_none, found_some, listed_both, same_name}
use Rattle.design_tables.proofs.TableLemmas.{some_counted}

pub same_key : (a b : Key) → same_words a b ≡ true → a ≡ b
same_key [] [] h = refl
same_key (v ∷ vs) (w ∷ ws) h = by (bytes_eq v w) refl h (λ later. same_key vs ws later)
  where
    by : (b : Bool) → bytes_eq v w ≡ b → (b && same_words vs ws) ≡ true → (same_words vs ws ≡ true → vs ≡ ws) → v ∷ vs ≡ w ∷ ws
    by true e h later = ap₂ (λ x xs. x ∷ xs) (same_name v w e) (later h)
    by false e h later = cc
same_key [] (w ∷ ws) h = cc
same_key (v ∷ vs) [] h = cc

counts_same : (p q : Mark → Bool) → ((m : Mark) → p m ≡ q m) → (ms : List Mark) → count_by p ms ≡ count_by q ms
counts_same p q same [] = refl
counts_same p q same (m ∷ ms) = sum_by-cons (λ x. cond (p x) 1 0) m ms ∙ ap₂ (λ a b. cond a 1 0 + b) (same m) (counts_same p q same ms) ∙ sym (sum_by-cons (λ x. cond (q x) 1 0) m ms)

keys_sum : (key : Key) (xs : List (StmtId × Record)) → count_by (same_words key) (keys_of xs) ≡ sum_by (λ (x : StmtId × Record). cond (same_words key (key_of x.1)) 1 0) xs
keys_sum key [] = refl
keys_sum key (x ∷ xs) =
    sum_by-cons (λ k. cond (same_words key k) 1 0) (key_of x.1) (keys_of xs)
    ∙ ap (λ n. cond (same_words key (key_of x.1)) 1 0 + n) (keys_sum key xs)
    ∙ sym (sum_by-cons (λ (y : StmtId × Record). cond (same_words key (key_of y.1)) 1 0) x xs)

stays : (a b : Bool) → (b ≡ true → a ≡ false) → (not a && b) ≡ b
stays true true h = sym (h refl)
stays true false h = refl
stays false b h = refl

-- statements of a key are as many as the marks under its name
pub counted_in : (n : List ℕ) (role : Role) (key : Key) → Counts n role key → (ys : List (StmtId × Record)) (es : List (List ℕ × Listing)) → AreTablesOf ys es → count_in n role es ≡ count_by (same_words key) (keys_of ys)
counted_in n role key c ys es are =
    (are n).marks (λ m. same_role m.role role)
    ∙ count_filter (λ m. not (is_member m)) (λ m. same_role m.role role) (marks_under n ys)
    ∙ counts_same (λ m. not (is_member m) && same_role m.role role) (λ m. same_role m.role role) (λ m. stays (is_member m) (same_role m.role role) (c.other m.role)) (marks_under n ys)
    ∙ c.under ys

pub below_two : (n : ℕ) → nat_lt 1 n ≡ false → n ≤ 1
below_two n h = grind (arith, nat_tests, h)

two_or_more : (n : ℕ) → nat_lt 1 n ≡ true → 1 < n
two_or_more n h = grind (arith, nat_tests, h)

module _ (xs out kept put : List (StmtId × Record)) (is : IsKept xs out kept) (names new : List (List ℕ × Listing)) (e : IsEdited (has_number out) names (flat_map marks_in out) (flat_map marks_in put) new)
    (are : AreTablesOf (kept ++ put) (new ++ names)) where
  of_both : (key : Key) → count_by (same_words key) (keys_of (kept ++ put)) ≡ count_by (same_words key) (keys_of kept) + count_by (same_words key) (keys_of put)
  of_both key = ap (count_by (same_words key)) (map-append (λ (x : StmtId × Record). key_of x.1) kept put) ∙ count_both (same_words key) (keys_of kept) (keys_of put)

  of_kept : (key : Key) → count_by (same_words key) (keys_of xs) ≡ count_by (same_words key) (keys_of out) + count_by (same_words key) (keys_of kept)
  of_kept key = keys_sum key xs ∙ is.sums (λ (x : StmtId × Record). cond (same_words key (key_of x.1)) 1 0) ∙ ap₂ (λ a b. a + b) (sym (keys_sum key out)) (sym (keys_sum key kept))

  -- of a name of the change, its own table counts for both
  here : (n : List ℕ) (role : Role) (key : Key) → Counts n role key → has_name n new ≡ true → count_in n role new ≡ count_by (same_words key) (keys_of (kept ++ put))
  here n role key c has =
      ap (λ (l : Listing). count_by (λ (m : Mark). same_role m.role role) l.marks) (sym (listed_both n new names ∙ ap (λ o. or_else_listed o (listed n names)) (found_some new n has)))
      ∙ counted_in n role key c (kept ++ put) (new ++ names) are

  none_put : (n : List ℕ) (role : Role) (key : Key) → Counts n role key → has_name n new ≡ false → count_by (same_words key) (keys_of put) ≡ 0
  none_put n role key c none = sym (c.under put) ∙ ap (count_by (λ (m : Mark). same_role m.role role)) (e.apart n none).1

  none_out : (n : List ℕ) (role : Role) (key : Key) → Counts n role key → has_name n new ≡ false → count_by (same_words key) (keys_of out) ≡ 0
  none_out n role key c none = sym (c.under out) ∙ ap (count_by (λ (m : Mark). same_role m.role role)) (e.apart n none).0

  abbrev Once : Key → Type 0
  Once key = count_by (same_words key) (keys_of (kept ++ put)) ≤ 1

  module _ (before : AreKeyed xs) where
    -- no statement of the key is put in
    once_kept : (key : Key) → key ≢ [] → count_by (same_words key) (keys_of put) ≡ 0 → Once key
    once_kept key some none = omega (arith, of_both key, of_kept key, before.once key some, none)

    once_put : (key : Key) → key ≢ [] → (o : Option (List ℕ × Role)) → CountsOf o key → is_twice o new ≡ false → Once key
    once_put key some None c twice = absurd (some c)
    once_put key some (Some m) c twice = by (has_name m.0 new) refl
      where
        by : (b : Bool) → has_name m.0 new ≡ b → Once key
        by true has = omega (arith, here m.0 m.1 key c has, below_two (count_in m.0 m.1 new) twice)
        by false none = once_kept key some (none_put m.0 m.1 key c none)

    first_put : (key : Key) (ys : List (StmtId × Record)) → list_any (is_repeated new) ys ≡ false → (count_by (same_words key) (keys_of ys) ≡ 0) ⊎ ((x : StmtId × Record) × (same_words key (key_of x.1) ≡ true) × (is_repeated new x ≡ false))
    first_put key [] none = inl refl
    first_put key (y ∷ ys) none = by (same_words key (key_of y.1)) refl (is_repeated new y) refl (λ later. first_put key ys later)
      where
        by : (b : Bool) → same_words key (key_of y.1) ≡ b → (c : Bool) → is_repeated new y ≡ c
            → (list_any (is_repeated new) ys ≡ false → (count_by (same_words key) (keys_of ys) ≡ 0) ⊎ ((x : StmtId × Record) × (same_words key (key_of x.1) ≡ true) × (is_repeated new x ≡ false)))
            → (count_by (same_words key) (keys_of (y ∷ ys)) ≡ 0) ⊎ ((x : StmtId × Record) × (same_words key (key_of x.1) ≡ true) × (is_repeated new x ≡ false))
        by b same true twice later = absurd (true≢false (sym (ap (λ d. d || list_any (is_repeated new) ys) twice) ∙ none))
        by true same false single later = inr (y, same, single)
        by false same false single later = ⊎_elim
            (λ zero. inl (sum_by-cons (λ k. cond (same_words key k) 1 0) (key_of y.1) (keys_of ys) ∙ ap₂ (λ a b. cond a 1 0 + b) same zero))
            (λ found. inr found)
            (later (sym (ap (λ d. d || list_any (is_repeated new) ys) single) ∙ none))

    once : (key : Key) → key ≢ [] → list_any (is_repeated new) put ≡ false → Once key
    once key some none = ⊎_elim
        (λ zero. once_kept key some zero)
        (λ (x : (x : StmtId × Record) × (same_words key (key_of x.1) ≡ true) × (is_repeated new x ≡ false)).
        let same : key ≡ key_of x.0.1 = same_key key (key_of x.0.1) x.1 in
        rw same (once_put (key_of x.0.1) (rw (← same) some) (key_mark x.0.1) (counts_of x.0.1) x.2))
        (first_put key put none)

    abbrev unit_key : Key
    unit_key = codes "UNITS" ∷ []

    some_units : list_any (same_words unit_key) (keys_of (kept ++ put)) ≡ ltb 0 (count_by (same_words unit_key) (keys_of (kept ++ put)))
    some_units = some_counted (same_words unit_key) (keys_of (kept ++ put))

    positive : (n : ℕ) → eqb n 0 ≡ false → ltb 0 n ≡ true
    positive n h = grind (arith, nat_tests, h)

    has_units : (b : Bool) → has_name (codes "UNITS") new ≡ b → lacks_units new ≡ false → is_among (keys_of (kept ++ put)) unit_key ≡ true
    has_units true has lacks =
        let some : has_none (Some (listed (codes "UNITS") new)) ≡ false = ap has_none (sym (found_some new (codes "UNITS") has)) ∙ lacks in
        some_units ∙ ap (ltb 0) (sym (here (codes "UNITS") roles.Statement unit_key (word_counts (codes "UNITS")) has)) ∙ positive (count_in (codes "UNITS") roles.Statement new) some
    has_units false none lacks =
        let went = none_out (codes "UNITS") roles.Statement unit_key (word_counts (codes "UNITS")) none in
        let had : ltb 0 (count_by (same_words unit_key) (keys_of xs)) ≡ true = sym (some_counted (same_words unit_key) (keys_of xs)) ∙ before.units in
        some_units ∙ more (count_by (same_words unit_key) (keys_of xs)) (count_by (same_words unit_key) (keys_of (kept ++ put))) had (omega (arith, of_both unit_key, of_kept unit_key, went))
      where
        more : (a b : ℕ) → ltb 0 a ≡ true → a ≤ b → ltb 0 b ≡ true
        more a b h le = grind (arith, nat_tests, h, le)

    pub keyed : list_any (is_repeated new) put ≡ false → lacks_units new ≡ false → AreKeyed (kept ++ put)
    keyed none lacks = record { once = λ key some. once key some none; units = has_units (has_name (codes "UNITS") new) refl lacks }

  -- what stands twice
  absent : (n : List ℕ) (role : Role) → has_name n new ≡ false → count_in n role new ≡ 0
  absent n role none = ap (λ o. count_by (λ (m : Mark). same_role m.role role) (or_unlisted o).marks) (found_none new n none)

  twice_put : (key : Key) (o : Option (List ℕ × Role)) → CountsOf o key → is_twice o new ≡ true → AreKeyed (kept ++ put) → ⊥
  twice_put key None c twice after = cc
  twice_put key (Some m) c twice after = by (has_name m.0 new) refl
    where
      by : (b : Bool) → has_name m.0 new ≡ b → ⊥
      by true has = omega (arith, here m.0 m.1 key c has, two_or_more (count_in m.0 m.1 new) twice, after.once key c.some)
      by false none = omega (arith, absent m.0 m.1 none, two_or_more (count_in m.0 m.1 new) twice)

  one_twice : (ys : List (StmtId × Record)) → list_any (is_repeated new) ys ≡ true → AreKeyed (kept ++ put) → ⊥
  one_twice [] some after = cc
  one_twice (y ∷ ys) some after = by (is_repeated new y) refl some (λ h. one_twice ys h after)
    where
      by : (b : Bool) → is_repeated new y ≡ b → (b || list_any (is_repeated new) ys) ≡ true → (list_any (is_repeated new) ys ≡ true → ⊥) → ⊥
      by true twice h later = twice_put (key_of y.1) (key_mark y.1) (counts_of y.1) twice after
      by false single h later = later h

  pub repeated : list_any (is_repeated new) put ≡ true → AreKeyed (kept ++ put) → ⊥
  repeated some after = one_twice put some after

  pub lacking : lacks_units new ≡ true → AreKeyed (kept ++ put) → ⊥
  lacking lacks after = by (has_name (codes "UNITS") new) refl
    where
      key : Key
      key = codes "UNITS" ∷ []

      zero : (n : ℕ) → eqb n 0 ≡ true → ltb 0 n ≡ false
      zero n h = grind (arith, nat_tests, h)

      by : (b : Bool) → has_name (codes "UNITS") new ≡ b → ⊥
      by true has =
          let none : has_none (Some (listed (codes "UNITS") new)) ≡ true = ap has_none (sym (found_some new (codes "UNITS") has)) ∙ lacks in
          let no_key : list_any (same_words key) (keys_of (kept ++ put)) ≡ false =
          some_counted (same_words key) (keys_of (kept ++ put)) ∙ ap (ltb 0) (sym (here (codes "UNITS") roles.Statement key (word_counts (codes "UNITS")) has)) ∙ zero (count_in (codes "UNITS") roles.Statement new) none in
          true≢false (sym after.units ∙ no_key)
      by false none = true≢false (sym lacks ∙ ap has_none (found_none new (codes "UNITS") none))

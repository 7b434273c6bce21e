-- A table of the names that a change has to do with, before the table that it was made of, is the table after the change.
use Rattle.std.proofs.Common.{◌≡◌, ℕ, ◌+◌, Bool, true, false, cond, if◌then◌else◌, not, ◌&&◌, List, [], ◌∷◌, ◌++◌, filter, map, refl, sym, ap, ap₂, ◌∙◌, arith}
use Rattle.std.specs.Prelude.{count_by, flat_map, sum_by}
use Rattle.std.specs.List.{list_any}
use Rattle.std.specs.Str.{bytes_eq}
use Rattle.std.proofs.lemmas.List.Sums.{sum_by-cons}
use Rattle.design_model.specs.declared.identifier.StmtId.{StmtId}
use Rattle.def_grammar.specs.Records.{Record}
use Rattle.design_tables.specs.Changes.{IsEdited, has_number, less, or_else_listed, without}
use Rattle.design_tables.specs.Listings.{AreTablesOf, Listing, SameListing, found, has_name, is_member, listed, marks_in, marks_named, marks_under, unlisted, with_marks}
use Rattle.design_tables.specs.Lookups.{is_number}
use Rattle.design_tables.specs.Marks.{marks_of}
use Rattle.design_tables.specs.Prepared.{HasNames, IsBetween, IsKept}
use Rattle.design_tables.specs.declared.role.Mark.{Mark}
use Rattle.design_tables.specs.declared.role.Role.{Role}
use Rattle.design_tables.proofs.CountLemmas.{count_both}
use Rattle.design_tables.proofs.ListingLemmas.{found_none, found_some, listed_both, none_more, or_both, or_true}
use Rattle.design_tables.proofs.MarkLemmas.{named_both, with_both}
use Rattle.design_tables.proofs.TableLemmas.{same_with, under_both}

-- marks of statements are counted statement by statement
pub under_sums : (test : Mark → Bool) (n : List ℕ) (xs : List (StmtId × Record)) → count_by test (marks_under n xs) ≡ sum_by (λ x. count_by test (marks_named n (marks_in x))) xs
under_sums test n [] = refl
under_sums test n (x ∷ xs) =
    ap (count_by test) (named_both n (marks_in x) (flat_map marks_in xs))
    ∙ count_both test (marks_named n (marks_in x)) (marks_under n xs)
    ∙ ap (λ k. count_by test (marks_named n (marks_in x)) + k) (under_sums test n xs)
    ∙ sym (sum_by-cons (λ y. count_by test (marks_named n (marks_in y))) x xs)

filter_step : (b c : Bool) (m : Mark) (ms : List Mark) (test : Mark → Bool) (k : ℕ) → test m ≡ c → count_by test ms ≡ k → count_by test (if b then m ∷ ms else ms) ≡ cond (b && c) 1 0 + k
filter_step true c m ms test k e h = sum_by-cons (λ x. cond (test x) 1 0) m ms ∙ ap₂ (λ a b. cond a 1 0 + b) e h
filter_step false c m ms test k e h = h ∙ omega arith

pub count_filter : (p test : Mark → Bool) (ms : List Mark) → count_by test (filter p ms) ≡ count_by (λ m. p m && test m) ms
count_filter p test [] = refl
count_filter p test (m ∷ ms) =
    filter_step (p m) (test m) m (filter p ms) test (count_by (λ x. p x && test x) ms) refl (count_filter p test ms) ∙ sym (sum_by-cons (λ x. cond (p x && test x) 1 0) m ms)

-- tests that agree on marks of one number
module _ (p q : Mark → Bool) (id : StmtId) (same : (role : Role) → p (record { role = role; id = id }) ≡ q (record { role = role; id = id })) where
  one_step : (b : Bool) (m : List ℕ × Mark) (ms : List (List ℕ × Mark)) → p m.1 ≡ q m.1 → count_by p (map (λ (x : List ℕ × Mark). x.1) ms) ≡ count_by q (map (λ (x : List ℕ × Mark). x.1) ms)
      → count_by p (map (λ (x : List ℕ × Mark). x.1) (if b then m ∷ ms else ms)) ≡ count_by q (map (λ (x : List ℕ × Mark). x.1) (if b then m ∷ ms else ms))
  one_step true m ms e h =
      sum_by-cons (λ x. cond (p x) 1 0) m.1 (map (λ (x : List ℕ × Mark). x.1) ms)
      ∙ ap₂ (λ a b. cond a 1 0 + b) e h
      ∙ sym (sum_by-cons (λ x. cond (q x) 1 0) m.1 (map (λ (x : List ℕ × Mark). x.1) ms))
  one_step false m ms e h = h

  of_roles : (n : List ℕ) (ms : List (List ℕ × Role)) → count_by p (marks_named n (map (λ (m : List ℕ × Role). (m.0, record { role = m.1; id = id })) ms)) ≡ count_by q (marks_named n (map (λ (m : List ℕ × Role). (m.0, record { role = m.1; id = id })) ms))
  of_roles n [] = refl
  of_roles n (m ∷ ms) =
      one_step (bytes_eq m.0 n) (m.0, record { role = m.1; id = id }) (filter (λ (x : List ℕ × Mark). bytes_eq x.0 n) (map (λ (x : List ℕ × Role). (x.0, record { role = x.1; id = id })) ms)) (same m.1) (of_roles n ms)

pub counts_agree : (p q : Mark → Bool) (x : StmtId × Record) → ((role : Role) → p (record { role = role; id = x.0 }) ≡ q (record { role = role; id = x.0 })) → (n : List ℕ) → count_by p (marks_named n (marks_in x)) ≡ count_by q (marks_named n (marks_in x))
counts_agree p q x same n = of_roles p q x.0 same n (marks_of x.1)

none_pass : {X : Type 0} (xs : List X) → count_by (λ x. false) xs ≡ 0
none_pass [] = refl
none_pass (x ∷ xs) = sum_by-cons (λ y. 0) x xs ∙ ap (λ k. 0 + k) (none_pass xs) ∙ omega arith

and_none : (a b : Bool) → (a && (false && b)) ≡ false
and_none true b = refl
and_none false b = refl

module _ (gone : StmtId → Bool) (p test : Mark → Bool) (n : List ℕ) where
  abbrev left : Mark → Bool
  left m = p m && (not (gone m.id) && test m)

  -- no mark of a statement that goes out is left
  none_left : (xs : List (StmtId × Record)) → ((id : StmtId) → has_number xs id ≡ true → gone id ≡ true) → count_by left (marks_under n xs) ≡ 0
  none_left [] h = refl
  none_left (x ∷ xs) h =
      let own : gone x.0 ≡ true = h x.0 (grind arith) in
      ap (count_by left) (named_both n (marks_in x) (flat_map marks_in xs))
      ∙ count_both left (marks_named n (marks_in x)) (marks_under n xs)
      ∙ ap₂ (λ a b. a + b)
      (counts_agree left (λ m. false) x (λ role. ap (λ b. p (record { role = role; id = x.0 }) && (not b && test (record { role = role; id = x.0 }))) own ∙ and_none (p (record { role = role; id = x.0 })) (test (record { role = role; id = x.0 }))) n
      ∙ none_pass (marks_named n (marks_in x)))
      (none_left xs (λ id has. h id (or_true (is_number id x.0) (has_number xs id) has)))

  -- and each mark of one that is kept is
  all_left : (xs : List (StmtId × Record)) → list_any (λ (x : StmtId × Record). gone x.0) xs ≡ false → count_by left (marks_under n xs) ≡ count_by (λ m. p m && test m) (marks_under n xs)
  all_left [] h = refl
  all_left (x ∷ xs) h =
      let own = or_both (gone x.0) (list_any (λ (y : StmtId × Record). gone y.0) xs) h in
      ap (count_by left) (named_both n (marks_in x) (flat_map marks_in xs))
      ∙ count_both left (marks_named n (marks_in x)) (marks_under n xs)
      ∙ ap₂ (λ a b. a + b) (counts_agree left (λ m. p m && test m) x (λ role. ap (λ b. p (record { role = role; id = x.0 }) && (not b && test (record { role = role; id = x.0 }))) own.0) n) (all_left xs own.1)
      ∙ sym (count_both (λ m. p m && test m) (marks_named n (marks_in x)) (marks_under n xs))
      ∙ ap (count_by (λ m. p m && test m)) (sym (named_both n (marks_in x) (flat_map marks_in xs)))

module _ (xs out kept : List (StmtId × Record)) (is : IsKept xs out kept) where
  -- marks of all are those of both
  pub kept_sums : (test : Mark → Bool) (n : List ℕ) → count_by test (marks_under n xs) ≡ count_by test (marks_under n out) + count_by test (marks_under n kept)
  kept_sums test n =
      under_sums test n xs
      ∙ is.sums (λ x. count_by test (marks_named n (marks_in x)))
      ∙ ap₂ (λ a b. a + b) (sym (under_sums test n out)) (sym (under_sums test n kept))

  module _ (names : List (List ℕ × Listing)) (are : AreTablesOf xs names) where
    abbrev stay : Mark → Bool
    stay m = not (is_member m)

    -- what is left under a name is what is kept there
    left_is_kept : (n : List ℕ) → SameListing (less (count_by is_member (marks_under n out)) (without (has_number out) (listed n names))) (with_marks (marks_under n kept) unlisted)
    left_is_kept n = record {
      marks = λ test.
          let gone = has_number out in
          count_filter (λ (m : Mark). not (gone m.id)) test (listed n names).marks
          ∙ (are n).marks (λ m. not (gone m.id) && test m)
          ∙ count_filter stay (λ m. not (gone m.id) && test m) (marks_under n xs)
          ∙ kept_sums (λ m. stay m && (not (gone m.id) && test m)) n
          ∙ ap₂ (λ a b. a + b) (none_left gone stay test n out (λ id h. h)) (all_left gone stay test n kept is.apart)
          ∙ omega arith
          ∙ sym (count_filter stay test (marks_under n kept));
      entries = omega (arith, (are n).entries, kept_sums is_member n);
    }

    pub edited_are : (put : List (StmtId × Record)) (new : List (List ℕ × Listing)) → IsEdited (has_number out) names (flat_map marks_in out) (flat_map marks_in put) new → AreTablesOf (kept ++ put) (new ++ names)
    edited_are put new e n = rw (listed_both n new names, all) (by (has_name n new) refl)
      where
        all : with_marks (marks_under n (kept ++ put)) unlisted ≡ with_marks (marks_under n put) (with_marks (marks_under n kept) unlisted)
        all = ap (λ ms. with_marks ms unlisted) (under_both n kept put) ∙ sym (with_both (marks_under n kept) (marks_under n put) unlisted)

        unchanged : (marks_under n out ≡ []) → SameListing (listed n names) (with_marks (marks_under n kept) unlisted)
        unchanged none = record {
          marks = λ test.
              (are n).marks test
              ∙ count_filter stay test (marks_under n xs)
              ∙ kept_sums (λ m. stay m && test m) n
              ∙ ap (λ ms. count_by (λ m. stay m && test m) ms + count_by (λ m. stay m && test m) (marks_under n kept)) none
              ∙ omega arith
              ∙ sym (count_filter stay test (marks_under n kept));
          entries =
              let nothing : count_by is_member (marks_under n out) ≡ 0 = ap (count_by is_member) none in
              omega (arith, (are n).entries, kept_sums is_member n, nothing);
        }

        by : (b : Bool) → has_name n new ≡ b → SameListing (or_else_listed (found n new) (listed n names)) (with_marks (marks_under n put) (with_marks (marks_under n kept) unlisted))
        by true h =
            rw (found_some new n h, e.changed n h)
            (same_with (marks_under n put) (less (count_by is_member (marks_under n out)) (without (has_number out) (listed n names))) (with_marks (marks_under n kept) unlisted) (left_is_kept n))
        by false h =
            let same : with_marks (marks_under n put) (with_marks (marks_under n kept) unlisted) ≡ with_marks (marks_under n kept) unlisted =
            ap (λ ms. with_marks ms (with_marks (marks_under n kept) unlisted)) (e.apart n h).1 ∙ none_more (with_marks (marks_under n kept) unlisted) in
            rw (found_none new n h, same) (unchanged (e.apart n h).0)

-- places that are made leave what stands under names
pub placed_same : (xs : List (StmtId × Record)) (names after : List (List ℕ × Listing)) → ((n : List ℕ) → listed n after ≡ listed n names) → AreTablesOf xs names → AreTablesOf xs after
placed_same xs names after same are n = rw (same n) (are n)

pub placed_behind : (xs : List (StmtId × Record)) (names after change : List (List ℕ × Listing)) → ((n : List ℕ) → listed n after ≡ listed n names) → AreTablesOf xs (change ++ names) → AreTablesOf xs (change ++ after)
placed_behind xs names after change same are n =
    let here : listed n (change ++ after) ≡ listed n (change ++ names) = listed_both n change after ∙ ap (or_else_listed (found n change)) (same n) ∙ sym (listed_both n change names) in
    rw here (are n)

-- and where a change leads
pub leads_still : (names after change : List (List ℕ × Listing)) (base other : List (StmtId × Record)) → ((n : List ℕ) → listed n after ≡ listed n names) → HasNames names after
    → IsBetween names change base other → IsBetween after change base other
leads_still names after change base other same kept is = record {
  base_is = placed_same base names after same is.base_is;
  other_is = placed_behind other names after change same is.other_is;
  apart = is.apart;
  places = λ n has. kept n (is.places n has);
}

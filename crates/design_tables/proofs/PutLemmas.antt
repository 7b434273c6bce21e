-- Marks of a statement that are put under their names, its own last.
use Rattle.std.proofs.Common.{◌≡◌, ◌⊎◌, inl, inr, ℕ, ◌+◌, ◌≤◌, Bool, true, false, cond, if◌then◌else◌, not, List, [], ◌∷◌, ◌++◌, filter, refl, sym, ap, ◌∙◌, Some, None, Result, Ok, Err, ⊎_elim, arith}
use Rattle.std.specs.Prelude.{IfOk, OnOk, count_by, nat_lt}
use Rattle.std.specs.Option.{option_to_list}
use Rattle.std.proofs.lemmas.Bool.Decides.{nat_tests}
use Rattle.std.proofs.lemmas.List.Elements.{filter-append}
use Rattle.std.proofs.lemmas.List.Sums.{sum_by-cons}
use Rattle.design_model.specs.declared.identifier.StmtId.{StmtId}
use Rattle.def_grammar.specs.Records.{Record, end_section, entry, entry_of, in_properties, top}
use Rattle.design_tables.specs.Listings.{AreTablesOf, Listing, SameListing, has_name, is_member, listed, marks_in, marks_named, marks_under, or_unlisted, unlisted, with_marks}
use Rattle.design_tables.specs.Marks.{entry_marks, key_mark, own_mark, same_role}
use Rattle.design_tables.specs.Prepared.{count_in, is_twice}
use Rattle.design_tables.specs.PutMarks.{ArePut, numbered}
use Rattle.design_tables.specs.declared.role.Mark.{Mark}
use Rattle.design_tables.specs.declared.role.Role.{Role}
use Rattle.design_tables.proofs.CountLemmas.{count_both}
use Rattle.design_tables.proofs.ListingLemmas.{found_none, named_one, own_name}
use Rattle.design_tables.proofs.MarkLemmas.{numbered_both, with_both}
use Rattle.design_tables.proofs.TableLemmas.{same_with, under_both, under_one}

pub if_ok_on : {X E P : Type 0} (r : Result X E) (F G : X → Type 0) → ((x : X) → P → F x → G x) → OnOk r P → IfOk r F → IfOk r G
if_ok_on (Ok x) F G f p h = f x p h
if_ok_on (Err e) F G f p h = h

-- what a text has once of a statement is its own mark, but for the END of a section
own_is_key : (r : Record) → (key_mark r ≡ None) ⊎ (key_mark r ≡ own_mark r)
own_is_key (top t) = inr refl
own_is_key (in_properties p) = inr refl
own_is_key (end_section s) = inl refl
own_is_key (entry e) = inr refl

at_most_one : (a b : Bool) (m : Mark) (test : Mark → Bool) → test m ≡ b → count_by test (if a then m ∷ [] else []) ≤ 1
at_most_one true true m test e = grind (arith, e, sum_by-cons (λ x. cond (test x) 1 0) m [])
at_most_one true false m test e = grind (arith, e, sum_by-cons (λ x. cond (test x) 1 0) m [])
at_most_one false b m test e = omega arith

one_is_single : (k : ℕ) → k ≤ 1 → nat_lt 1 k ≡ false
one_is_single k h = grind (arith, nat_tests, h)

module _ (id : StmtId) (m : List ℕ × Role) (old new : List (List ℕ × Listing)) (put : (n : List ℕ) → listed n new ≡ with_marks (marks_named n ((m.0, record { role = m.1; id = id }) ∷ [])) (listed n old)) where
  -- one mark under a name that is new
  new_mark : has_name m.0 old ≡ false → listed m.0 new ≡ with_marks (record { role = m.1; id = id } ∷ []) unlisted
  new_mark none =
      put m.0
      ∙ ap (λ ms. with_marks ms (listed m.0 old)) (named_one m.0 m.0 (record { role = m.1; id = id }) ∙ ap (λ b. if b then record { role = m.1; id = id } ∷ [] else []) (own_name m.0))
      ∙ ap (λ o. with_marks (record { role = m.1; id = id } ∷ []) (or_unlisted o)) (found_none old m.0 none)

  few : has_name m.0 old ≡ false → count_in m.0 m.1 new ≤ 1
  few none =
      let mark : Mark = record { role = m.1; id = id } in
      rw (new_mark none) (at_most_one (not (is_member mark)) (same_role m.1 m.1) mark (λ k. same_role k.role m.1) refl)

  pub new_once : (r : Record) → own_mark r ≡ Some m → has_name m.0 old ≡ false → is_twice (key_mark r) new ≡ false
  new_once r own none = ⊎_elim
      (λ no_key. ap (λ o. is_twice o new) no_key)
      (λ same. ap (λ o. is_twice o new) (same ∙ own) ∙ one_is_single (count_in m.0 m.1 new) (few none))
      (own_is_key r)

-- in whatever order a statement's marks are put
other_order : (ms more : List Mark) (l : Listing) → SameListing (with_marks (ms ++ more) l) (with_marks (more ++ ms) l)
other_order ms more l = record {
  marks = λ test.
      let few = λ (m : Mark). not (is_member m) in
      let one = count_both test l.marks (filter few (ms ++ more)) ∙ ap (λ ks. count_by test l.marks + count_by test ks) (filter-append few ms more) ∙ ap (λ k. count_by test l.marks + k) (count_both test (filter few ms) (filter few more)) in
      let two = count_both test l.marks (filter few (more ++ ms)) ∙ ap (λ ks. count_by test l.marks + count_by test ks) (filter-append few more ms) ∙ ap (λ k. count_by test l.marks + k) (count_both test (filter few more) (filter few ms)) in
      omega (arith, one, two);
  entries = omega (arith, count_both is_member ms more, count_both is_member more ms);
}

pub is_new_name : (is_new has : Bool) → is_new ≡ not has → is_new ≡ true → has ≡ false
is_new_name is_new true e is = sym is ∙ e
is_new_name is_new false e is = refl

pub word_put : (id : StmtId) (role : Role) (w word : List ℕ) (old new : List (List ℕ × Listing)) → w ≡ word → ((n : List ℕ) → listed n new ≡ with_marks (marks_named n ((w, record { role = role; id = id }) ∷ [])) (listed n old))
    → ArePut id ((word, role) ∷ []) old new
word_put id role w word old new e put = rw (← e) (record { under = put })

same_then : (a b c : Listing) → SameListing a b → SameListing b c → SameListing a c
same_then a b c first second = record { marks = λ test. first.marks test ∙ second.marks test; entries = first.entries ∙ second.entries }

-- one statement more
pub one_added : (xs : List (StmtId × Record)) (id : StmtId) (r : Record) (old new : List (List ℕ × Listing)) → AreTablesOf xs old → ArePut id (entry_marks (entry_of r) ++ option_to_list (own_mark r)) old new
    → AreTablesOf (xs ++ (id, r) ∷ []) new
one_added xs id r old new are put n =
    let own = marks_named n (numbered id (option_to_list (own_mark r))) in
    let others = marks_named n (numbered id (entry_marks (entry_of r))) in
    let before = with_marks (marks_under n xs) unlisted in
    let now : listed n new ≡ with_marks (others ++ own) (listed n old) = put.under n ∙ ap (λ ms. with_marks ms (listed n old)) (numbered_both n id (entry_marks (entry_of r)) (option_to_list (own_mark r))) in
    let all : with_marks (marks_under n (xs ++ (id, r) ∷ [])) unlisted ≡ with_marks (own ++ others) before =
    ap (λ ks. with_marks ks unlisted) (under_both n xs ((id, r) ∷ []) ∙ ap (λ ks. marks_under n xs ++ ks) (under_one n (id, r)))
    ∙ sym (with_both (marks_under n xs) (marks_named n (marks_in (id, r))) unlisted)
    ∙ ap (λ ms. with_marks ms before) (numbered_both n id (option_to_list (own_mark r)) (entry_marks (entry_of r))) in
    rw (now, all) (same_then (with_marks (others ++ own) (listed n old)) (with_marks (own ++ others) (listed n old)) (with_marks (own ++ others) before) (other_order others own (listed n old)) (same_with (own ++ others) (listed n old) before (are n)))

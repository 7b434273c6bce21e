-- Statements in another order.
use Rattle.std.proofs.Common.{◌≡◌, ℕ, Bool, ◌+◌, cond, codes, List, [], ◌∷◌, refl, sym, ap, ◌∙◌}
use Rattle.std.specs.Prelude.{count_by, sum_by, not, ◌&&◌}
use Rattle.std.proofs.lemmas.List.Sums.{sum_by-cons}
use Rattle.design_model.specs.declared.identifier.StmtId.{StmtId}
use Rattle.statement_model.specs.Grammar.{Key}
use Rattle.statement_model.specs.Reading.{same_words}
use Rattle.def_grammar.specs.Records.{Record, key_of}
use Rattle.design_tables.specs.AnyOrder.{AreSame, KeysInAnyOrder, TablesInAnyOrder}
use Rattle.design_tables.specs.Listings.{SameListing, is_member, marks_in, marks_named, marks_under, unlisted, with_marks}
use Rattle.design_tables.specs.Prepared.{keys_of}
use Rattle.design_tables.specs.declared.role.Mark.{Mark}
use Rattle.design_tables.proofs.ChangeLemmas.{count_filter, under_sums}
use Rattle.design_tables.proofs.TableLemmas.{any_same}

under_same : (test : Mark → Bool) (n : List ℕ) (xs ys : List (StmtId × Record)) → AreSame xs ys → count_by test (marks_under n xs) ≡ count_by test (marks_under n ys)
under_same test n xs ys same = under_sums test n xs ∙ same (λ x. count_by test (marks_named n (marks_in x))) ∙ sym (under_sums test n ys)

listings_same : (n : List ℕ) (xs ys : List (StmtId × Record)) → AreSame xs ys → SameListing (with_marks (marks_under n xs) unlisted) (with_marks (marks_under n ys) unlisted)
listings_same n xs ys same = record {
  marks = λ test.
      count_filter (λ m. not (is_member m)) test (marks_under n xs)
      ∙ under_same (λ m. not (is_member m) && test m) n xs ys same
      ∙ sym (count_filter (λ m. not (is_member m)) test (marks_under n ys));
  entries = ap (λ k. 0 + k) (under_same is_member n xs ys same);
}

pub tables_same : TablesInAnyOrder
tables_same xs ys names same tables n =
    let t = tables n in
    let l = listings_same n xs ys same in
    record { marks = λ test. t.marks test ∙ l.marks test; entries = t.entries ∙ l.entries }

keys_counted : (test : Key → Bool) (xs : List (StmtId × Record)) → count_by test (keys_of xs) ≡ sum_by (λ (x : StmtId × Record). cond (test (key_of x.1)) 1 0) xs
keys_counted test [] = refl
keys_counted test (x ∷ xs) =
    sum_by-cons (λ k. cond (test k) 1 0) (key_of x.1) (keys_of xs)
    ∙ ap (λ k. cond (test (key_of x.1)) 1 0 + k) (keys_counted test xs)
    ∙ sym (sum_by-cons (λ (y : StmtId × Record). cond (test (key_of y.1)) 1 0) x xs)

counted_same : (test : Key → Bool) (xs ys : List (StmtId × Record)) → AreSame xs ys → count_by test (keys_of xs) ≡ count_by test (keys_of ys)
counted_same test xs ys same = keys_counted test xs ∙ same (λ (x : StmtId × Record). cond (test (key_of x.1)) 1 0) ∙ sym (keys_counted test ys)

pub keys_same : KeysInAnyOrder
keys_same xs ys same keyed = record {
  once = λ key some. rw (← counted_same (same_words key) xs ys same) (keyed.once key some);
  units = sym (any_same (same_words (codes "UNITS" ∷ [])) (keys_of xs) (keys_of ys) (counted_same (same_words (codes "UNITS" ∷ [])) xs ys same)) ∙ keyed.units;
}

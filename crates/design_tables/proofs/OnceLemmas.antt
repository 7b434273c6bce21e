-- Statements that are added one after the other have once what a text has once, as long as the table says so of each.
use Rattle.std.proofs.Common.{◌≡◌, ◌≢◌, ◌≤◌, ◌↔◌, ℕ, ◌+◌, Bool, true, false, cond, ltb, List, [], ◌∷◌, ◌++◌, refl, sym, ap, ◌∙◌, Option, Some, None, arith}
use Rattle.std.specs.Prelude.{codes, count_by, nat_lt}
use Rattle.std.proofs.lemmas.Bool.Decides.{nat_tests}
use Rattle.std.proofs.lemmas.List.{map-append}
use Rattle.design_model.specs.declared.identifier.StmtId.{StmtId}
use Rattle.statement_model.specs.Grammar.{Key}
use Rattle.statement_model.specs.Reading.{is_among, same_words}
use Rattle.def_grammar.specs.Records.{Record, key_of}
use Rattle.design_tables.specs.Listings.{AreTablesOf, Listing}
use Rattle.design_tables.specs.Marks.{key_mark}
use Rattle.design_tables.specs.Prepared.{HaveKeysOnce, count_in, is_repeated, is_twice, keys_of}
use Rattle.design_tables.specs.declared.role.Role.{Role}
use Rattle.design_tables.specs.declared.role.Role.TheVariants as roles
use Rattle.design_tables.proofs.CountLemmas.{count_both}
use Rattle.design_tables.proofs.KeyLemmas.{CountsOf, counts_of, word_counts}
use Rattle.design_tables.proofs.KeyedLemmas.{below_two, counted_in, same_key}
use Rattle.design_tables.proofs.TableLemmas.{some_counted}

not_two : (n : ℕ) → n ≤ 1 → nat_lt 1 n ≡ false
not_two n h = grind (arith, nat_tests, h)

module _ (xs : List (StmtId × Record)) (x : StmtId × Record) (es : List (List ℕ × Listing)) (are : AreTablesOf (xs ++ x ∷ []) es) where
  abbrev all : List (StmtId × Record)
  all = xs ++ x ∷ []

  one_more : (key : Key) → count_by (same_words key) (keys_of all) ≡ count_by (same_words key) (keys_of xs) + (0 + cond (same_words key (key_of x.1)) 1 0)
  one_more key = ap (count_by (same_words key)) (map-append (λ (y : StmtId × Record). key_of y.1) xs (x ∷ [])) ∙ count_both (same_words key) (keys_of xs) (key_of x.1 ∷ [])

  own_once : (key : Key) → key ≢ [] → (o : Option (List ℕ × Role)) → CountsOf o key → is_twice o es ≡ false → count_by (same_words key) (keys_of all) ≤ 1
  own_once key some None c single = absurd (some c)
  own_once key some (Some m) c single = omega (arith, counted_in m.0 m.1 key c all es are, below_two (count_in m.0 m.1 es) single)

  once_then : HaveKeysOnce xs → is_repeated es x ≡ false → HaveKeysOnce all
  once_then before single key some = by (same_words key (key_of x.1)) refl
    where
      by : (b : Bool) → same_words key (key_of x.1) ≡ b → count_by (same_words key) (keys_of all) ≤ 1
      by true same =
          let e : key ≡ key_of x.1 = same_key key (key_of x.1) same in
          rw e (own_once (key_of x.1) (rw (← e) some) (key_mark x.1) (counts_of x.1) single)
      by false other =
          let n = one_more key ∙ ap (λ (b : Bool). count_by (same_words key) (keys_of xs) + (0 + cond b 1 0)) other in
          omega (arith, n, before key some)

  is_single : (o : Option (List ℕ × Role)) (key : Key) → CountsOf o key → HaveKeysOnce all → is_twice o es ≡ false
  is_single None key c once = refl
  is_single (Some m) key c once = not_two (count_in m.0 m.1 es) (omega (arith, counted_in m.0 m.1 key c all es are, once key c.some))

  pub added_once : HaveKeysOnce xs → (is_repeated es x ≡ false) ↔ HaveKeysOnce all
  added_once before = (once_then before, is_single (key_mark x.1) (key_of x.1) (counts_of x.1))

pub units_are : (xs : List (StmtId × Record)) (es : List (List ℕ × Listing)) → AreTablesOf xs es → ltb 0 (count_in (codes "UNITS") roles.Statement es) ≡ is_among (keys_of xs) (codes "UNITS" ∷ [])
units_are xs es are =
    let key : Key = codes "UNITS" ∷ [] in
    ap (ltb 0) (counted_in (codes "UNITS") roles.Statement key (word_counts (codes "UNITS")) xs es are) ∙ sym (some_counted (same_words key) (keys_of xs))

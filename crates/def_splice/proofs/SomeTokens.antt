-- The statements of a text have tokens.
use Rattle.std.proofs.Common.{◌≡◌, ◌<◌, ℕ, Bool, List, [], ◌∷◌, ◌++◌, length, Some, sym, ◌∙◌, inl, inr, arith, subst, length-append}
use Rattle.std.specs.List.{zip}
use Rattle.std.proofs.lemmas.Bool.{cases_Bool}
use Rattle.std.proofs.lemmas.List.{length-map}
use Rattle.design_model.specs.declared.mode.Section.{Section}
use Rattle.statement_model.specs.Tokens.{Token, tokens}
use Rattle.statement_model.specs.Boundaries.{is_whole, statements}
use Rattle.lefdef_tokens.specs.Laws.{moved_token}
use Rattle.lefdef_tokens.specs.Views.{pieces_of, words_of}
use Rattle.def_grammar.specs.Located.{entry_at, is_entry, located}
use Rattle.def_grammar.specs.Records.{Record, def_ending, entry_of}
use Rattle.edit_rules.specs.SectionEdits.{tokens_where}
use Rattle.def_splice.specs.Lying.{lying_tokens}
use Rattle.def_splice.specs.declared.lying.Lying.{Lying}

-- each has some
abbrev AllSome : List (List Token) → Type 0
AllSome [] = Unit {0}
AllSome (s ∷ ss) = (0 < length s) × AllSome ss

abbrev AllHaveSome : List (List Token × Record) → Type 0
AllHaveSome [] = Unit {0}
AllHaveSome (x ∷ xs) = (0 < length x.0) × AllHaveSome xs

statements_some : (ps before : List Token) → AllSome (statements def_ending before ps).0
unfolding statements
statements_some [] before = tt
statements_some (p ∷ ps) before = elim (cases_Bool (is_whole def_ending (before ++ p ∷ []))) [
  | inl is ↦ rw is (omega (arith, length-append before (p ∷ [])), statements_some ps [])
  | inr more ↦ rw more (statements_some ps (before ++ p ∷ []))
]

zip_some : (ss : List (List Token)) (design : List Record) → AllSome ss → AllHaveSome (zip ss design)
zip_some [] [] all = tt
zip_some [] (r ∷ rs) all = tt
zip_some (s ∷ ss) [] all = tt
zip_some (s ∷ ss) (r ∷ rs) all = (all.0, zip_some ss rs all.1)

located_some : (text : List ℕ) (design : List Record) → AllHaveSome (located text design)
located_some text design = zip_some (statements def_ending [] (tokens text).pieces).0 design (statements_some (tokens text).pieces [])

entry_some : (s : Section) (name : List ℕ) (xs : List (List Token × Record)) (x : List Token × Record) → AllHaveSome xs → entry_at s name xs ≡ Some x → 0 < length x.0
entry_some s name [] x all is = absurd (cc)
entry_some s name (y ∷ ys) x all is = elim (cases_Bool (is_entry s name (entry_of y.1))) [
  | inl so ↦ let k : Some y ≡ Some x = rw so at is in subst (λ (z : List Token × Record). 0 < length z.0) (same k) all.0
  | inr not_so ↦ let k : entry_at s name ys ≡ Some x = rw not_so at is in entry_some s name ys x all.1 k
]
  where
    same : {a b : List Token × Record} → Some a ≡ Some b → a ≡ b
    same e = cc

where_some : (test : Record → Bool) (xs : List (List Token × Record)) (ps : List Token) → AllHaveSome xs → tokens_where test xs ≡ Some ps → 0 < length ps
where_some test [] ps all is = absurd (cc)
where_some test (y ∷ ys) ps all is = elim (cases_Bool (test y.1)) [
  | inl so ↦ let k : Some y.0 ≡ Some ps = rw so at is in subst (λ (z : List Token). 0 < length z) (same k) all.0
  | inr not_so ↦ let k : tokens_where test ys ≡ Some ps = rw not_so at is in where_some test ys ps all.1 k
]
  where
    same : {a b : List Token} → Some a ≡ Some b → a ≡ b
    same e = cc

-- as many as are found
pub words_there : (x : Lying) → length (lying_tokens x) ≡ length (words_of x.tokens)
words_there x = length-map (pieces_of x.tokens) (moved_token x.at) ∙ sym (length-map (pieces_of x.tokens) (λ p. p.bytes))

pub entry_has_some : (text : List ℕ) (design : List Record) (s : Section) (name : List ℕ) (x : Lying) (rec : Record) → entry_at s name (located text design) ≡ Some (lying_tokens x, rec) → 0 < length (words_of x.tokens)
entry_has_some text design s name x rec is = subst (λ (n : ℕ). 0 < n) (words_there x) (entry_some s name (located text design) (lying_tokens x, rec) (located_some text design) is)

pub found_has_some : (text : List ℕ) (design : List Record) (test : Record → Bool) (x : Lying) → tokens_where test (located text design) ≡ Some (lying_tokens x) → 0 < length (words_of x.tokens)
found_has_some text design test x is = subst (λ (n : ℕ). 0 < n) (words_there x) (where_some test (located text design) (lying_tokens x) (located_some text design) is)

-- A loop over the clauses of an entry, up to the one that places the component.
use Rattle.std.proofs.Common.{◌≡◌, ◌+◌, ◌-◌, ℕ, true, false, List, [], ◌∷◌, ◌++◌, length, refl, sym, ap, ◌∙◌, arith, append_assoc, length-append, Some, None}
use Rattle.std.proofs.lemmas.List.{append-nil}
use Rattle.form_meanings.specs.Words.{Rest}
use Rattle.form_meanings.specs.Meaning.{spell_all}
use Rattle.statement_model.specs.Form.{read, spell}
use Rattle.statement_model.specs.Tokens.{Token}
use Rattle.lefdef_tokens.specs.Places.{behind}
use Rattle.lefdef_tokens.proofs.PlaceLemmas.{behind_append}
use Rattle.def_grammar.specs.Components.{Clause, clause, is_placing}
use Rattle.def_grammar.specs.Placing.{placing, before_placing}
use Rattle.place_parts.proofs.PlacingTokens.{more_before, none_before, spell_both}

-- some clauses passed that don't place the component, and others are left
pub record Passing (all : List Clause) (start : Rest) (first : List Token) (left : List Clause) (now : Rest) (next : List Token) : Type 0 where
  pub passed : List Clause
  pub places : placing all ≡ placing left
  pub before : before_placing all ≡ passed ++ before_placing left
  pub words : start.words ≡ spell_all (spell clause) passed ++ now.words
  pub tokens : next ≡ behind (spell_all (spell clause) passed) first

pub passing_start : (all : List Clause) (start : Rest) (first : List Token) → Passing all start first all start first
passing_start all start first = record { passed = []; places = refl; before = refl; words = refl; tokens = refl }

spell_one_more : (passed : List Clause) (c : Clause) (ws : List (List ℕ)) → spell_all (spell clause) passed ++ (spell clause c ++ ws) ≡ spell_all (spell clause) (passed ++ c ∷ []) ++ ws
spell_one_more [] c ws = sym (append_assoc (spell clause c) [] ws)
spell_one_more (p ∷ ps) c ws =
    append_assoc (spell clause p) (spell_all (spell clause) ps) (spell clause c ++ ws)
    ∙ ap (λ (z : List (List ℕ)). spell clause p ++ z) (spell_one_more ps c ws)
    ∙ sym (append_assoc (spell clause p) (spell_all (spell clause) (ps ++ c ∷ [])) ws)

-- the words of some clauses, and of one more
spell_last : (passed : List Clause) (c : Clause) → spell_all (spell clause) passed ++ spell clause c ≡ spell_all (spell clause) (passed ++ c ∷ [])
spell_last passed c = sym (spell_both passed (c ∷ []) ∙ ap (λ (z : List (List ℕ)). spell_all (spell clause) passed ++ z) (append-nil (spell clause c)))

module _ (all : List Clause) (start : Rest) (first : List Token) (left : List Clause) (now : Rest) (next : List Token) (p : Passing all start first left now next) where
  pub none_left : left ≡ [] → placing all ≡ None
  none_left is = p.places ∙ rw is refl

  -- how many tokens passed
  pub passed_tokens : length start.words ≡ length (spell_all (spell clause) p.passed) + length now.words
  passed_tokens = rw p.words (length-append (spell_all (spell clause) p.passed) now.words)

  module _ (c : Clause) (later : List Clause) (after : Rest) (step : left ≡ c ∷ later) (reads : read clause now ≡ Some (c, after)) where
    here : now.words ≡ spell clause c ++ after.words
    here = (clause.exact.shows now (c, after) reads).words

    pub clause_tokens : length now.words ≡ length (spell clause c) + length after.words
    clause_tokens = rw here (length-append (spell clause c) after.words)

    pub passing_on : (behind_it : List Token) → behind_it ≡ behind (spell clause c) next → is_placing c ≡ false → Passing all start first later after behind_it
    passing_on behind_it moved other = record {
      passed = p.passed ++ c ∷ [];
      places = p.places ∙ rw (step, other) refl;
      before = p.before ∙ rw (step, more_before c later other) (sym (append_assoc p.passed (c ∷ []) (before_placing later)));
      words = p.words ∙ ap (λ (z : List (List ℕ)). spell_all (spell clause) p.passed ++ z) here ∙ spell_one_more p.passed c after.words;
      tokens = moved ∙ ap (behind (spell clause c)) p.tokens ∙ sym (behind_append (spell_all (spell clause) p.passed) (spell clause c) first) ∙ ap (λ (z : List (List ℕ)). behind z first) (spell_last p.passed c);
    }

    module _ (is : is_placing c ≡ true) where
      pub found : placing all ≡ Some c
      found = p.places ∙ rw (step, is) refl

      all_before : before_placing all ≡ p.passed ++ []
      all_before = p.before ∙ rw (step, none_before c later is) refl

      pub found_before : length start.words - length now.words ≡ length (spell_all (spell clause) (before_placing all))
      found_before =
          let before : before_placing all ≡ p.passed = all_before ∙ append-nil p.passed in
          rw (before, passed_tokens) (omega arith)

      pub found_count : length now.words - length after.words ≡ length (spell clause c)
      found_count = rw clause_tokens (omega arith)

      -- the clause that places it is next
      pub found_next : next ≡ behind (spell_all (spell clause) (before_placing all)) first
      found_next = p.tokens ∙ ap (λ (cs : List Clause). behind (spell_all (spell clause) cs) first) (sym (all_before ∙ append-nil p.passed))

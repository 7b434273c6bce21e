-- The tokens of the clause that places a component, among those of its entry.
use Rattle.std.proofs.Common.{◌≡◌, ◌≤◌, ◌+◌, ◌-◌, ℕ, true, false, not, List, [], ◌∷◌, ◌++◌, length, take, drop, refl, sym, ap, ◌∙◌, inl, inr, arith, codes, append_assoc, length-append, length-drop, Some}
use Rattle.std.proofs.lemmas.Bool.{cases_Bool}
use Rattle.std.proofs.lemmas.List.{length-map, length-take}
use Rattle.std.proofs.lemmas.List.Sums.{take_while-cons}
use Rattle.std.proofs.Math.Seq.{drop-append_seam, take-append_seam}
use Rattle.form_meanings.specs.Meaning.{spell_all}
use Rattle.form_meanings.proofs.Steps.{some_same}
use Rattle.statement_model.specs.Tokens.{left_from}
use Rattle.statement_model.specs.Form.{spell}
use Rattle.def_grammar.specs.Components.{Clause, Component, clause, component_form, is_placing}
use Rattle.def_grammar.specs.Placing.{placing, before_placing}
use Rattle.lefdef_tokens.specs.Views.{pieces_of, words_of}
use Rattle.lefdef_tokens.specs.declared.token_run.TokenRun.{TokenRun}
use Rattle.place_parts.specs.PlacingViews.{before_word, IsPlacing}

pub more_before : (c : Clause) (later : List Clause) → is_placing c ≡ false → before_placing (c ∷ later) ≡ c ∷ before_placing later
more_before c later other = take_while-cons (λ (k : Clause). not (is_placing k)) c later ∙ rw other refl

pub none_before : (c : Clause) (later : List Clause) → is_placing c ≡ true → before_placing (c ∷ later) ≡ []
none_before c later is = take_while-cons (λ (k : Clause). not (is_placing k)) c later ∙ rw is refl

-- the clauses before the one that places the component, that one, and those after it
split_at_placing : (cs : List Clause) (old : Clause) → placing cs ≡ Some old → (after : List Clause) × (cs ≡ before_placing cs ++ old ∷ after)
split_at_placing [] old h = absurd (cc)
split_at_placing (c ∷ cs) old h = elim (cases_Bool (is_placing c)) [
  | inl is ↦ let k = rw is at h in (cs, rw (none_before c cs is) (ap (λ (z : Clause). z ∷ cs) (some_same c old k)))
  | inr other ↦ let later = split_at_placing cs old (rw other at h) in (later.0, rw (more_before c cs other) (ap (λ (z : List Clause). c ∷ z) later.1))
]

pub spell_both : (xs ys : List Clause) → spell_all (spell clause) (xs ++ ys) ≡ spell_all (spell clause) xs ++ spell_all (spell clause) ys
spell_both [] ys = refl
spell_both (x ∷ xs) ys = ap (λ (z : List (List ℕ)). spell clause x ++ z) (spell_both xs ys) ∙ sym (append_assoc (spell clause x) (spell_all (spell clause) xs) (spell_all (spell clause) ys))

-- a clause begins with its +
begins : (c : Clause) → spell clause c ≡ codes "+" ∷ drop 1 (spell clause c)
unfolding clause
begins c = refl

regroup : (rest before body after last all : List (List ℕ)) (plus : List ℕ) → all ≡ before ++ ((plus ∷ body) ++ after) → rest ++ (all ++ last) ≡ (rest ++ (before ++ plus ∷ [])) ++ (body ++ (after ++ last))
regroup rest before body after last all plus is = rw is (simp append_assoc)

-- the tokens of an entry before that clause's word
abbrev words_before : Component → List (List ℕ)
words_before c = codes "-" ∷ c.name ∷ c.cell ∷ (c.rest ++ (spell_all (spell clause) (before_placing c.clauses) ++ codes "+" ∷ []))

before_length : (c : Component) → before_word c ≡ length (words_before c)
before_length c =
    let before = spell_all (spell clause) (before_placing c.clauses) in
    omega (arith, length-append c.rest (before ++ codes "+" ∷ []), length-append before (codes "+" ∷ []))

module _ (c : Component) (old : Clause) (is : placing c.clauses ≡ Some old) where
  entry_words : (tail : List (List ℕ)) × (spell component_form c ≡ words_before c ++ (drop 1 (spell clause old) ++ tail))
  unfolding component_form
  entry_words =
      let split = split_at_placing c.clauses old is in
      let after = spell_all (spell clause) split.0 in
      let before = spell_all (spell clause) (before_placing c.clauses) in
      let all : spell_all (spell clause) c.clauses ≡ before ++ ((codes "+" ∷ drop 1 (spell clause old)) ++ after) =
      ap (spell_all (spell clause)) split.1 ∙ spell_both (before_placing c.clauses) (old ∷ split.0) ∙ ap (λ (z : List (List ℕ)). before ++ (z ++ after)) (begins old) in (
        after ++ codes ";" ∷ [],
        ap (λ (z : List (List ℕ)). codes "-" ∷ c.name ∷ c.cell ∷ z) (regroup c.rest before (drop 1 (spell clause old)) after (codes ";" ∷ []) (spell_all (spell clause) c.clauses) (codes "+") all),
      )

  pub some_tokens : 1 ≤ length (spell clause old)
  some_tokens = rw (begins old) (omega arith)

  module _ (ws : List (List ℕ)) (spelled : ws ≡ spell component_form c) where
    left : drop (before_word c) ws ≡ drop 1 (spell clause old) ++ entry_words.0
    left = rw (before_length c, spelled, entry_words.1) (drop-append_seam (words_before c) (drop 1 (spell clause old) ++ entry_words.0))

    pub placing_words : take (length (spell clause old) - 1) (drop (before_word c) ws) ≡ drop 1 (spell clause old)
    placing_words = rw (left, ← length-drop 1 (spell clause old)) (take-append_seam (drop 1 (spell clause old)) entry_words.0)

    pub placing_fits : before_word c + (length (spell clause old) - 1) ≤ length ws
    placing_fits =
        let body = drop 1 (spell clause old) in
        let long = ap length spelled ∙ ap length entry_words.1 in
        omega (arith, long, before_length c, length-append (words_before c) (body ++ entry_words.0), length-append body entry_words.0, length-drop 1 (spell clause old))

-- a run has no more words than it says
pub words_within : (run : TokenRun) → length (words_of run) ≤ run.count
words_within run =
    let pieces = (left_from run.text.now run.pos).pieces in
    rw (length-map (take run.count pieces) (λ p. p.bytes), length-take run.count pieces) (omega arith)

-- the tokens left after those before the clause's word, and the clause's tokens of them
module _ (c : Component) (old : Clause) (is : placing c.clauses ≡ Some old) (entry : TokenRun) (spelled : words_of entry ≡ spell component_form c) (first count : ℕ) (first_is : first ≡ before_word c) (count_is : count ≡ length (spell clause old)) where
  pub first_fits : first + (count - 1) ≤ entry.count
  first_fits =
      let fits = placing_fits c old is (words_of entry) spelled in
      let within = words_within entry in
      rw (first_is, count_is) (omega arith)

  module _ (later : TokenRun) (words : words_of later ≡ drop first (words_of entry)) where
    pub front_fits : count - 1 ≤ later.count
    front_fits =
        let fits = placing_fits c old is (words_of entry) spelled in
        let within = words_within later in
        let long = ap length words ∙ length-drop first (words_of entry) in
        omega arith

    pub is_placing_run : (run : TokenRun) → pieces_of later ≡ drop first (pieces_of entry) → words_of run ≡ take (count - 1) (words_of later) → pieces_of run ≡ take (count - 1) (pieces_of later) → IsPlacing c entry run
    is_placing_run run pieces run_words run_pieces = record {
      old = old;
      places = is;
      words = run_words ∙ rw (words, first_is, count_is) (placing_words c old is (words_of entry) spelled);
      pieces = run_pieces ∙ rw (pieces, first_is, count_is) refl;
    }

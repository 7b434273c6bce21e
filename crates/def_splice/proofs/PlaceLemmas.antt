-- The cut of a placement, and why it is refused.
use Rattle.std.proofs.Common.{◌≡◌, ◌==◌, ◌+◌, ◌-◌, ◌<◌, ◌≤◌, ◌++◌, take, drop, ℕ, ℤ, true, false, List, [], ◌∷◌, Option, Some, None, Result, Ok, Err, length, codes, inl, inr, refl, subst, sym, ap, ◌∙◌, arith, length-append}
use Rattle.std.specs.Prelude.{IfOk, IsOk, MatchOption}
use Rattle.std.specs.Option.{option_map}
use Rattle.design_model.specs.declared.fault.Fault.{Fault}
use Rattle.def_grammar.specs.Records.{Record}
use Rattle.std.proofs.lemmas.Bool.{cases_Bool}
use Rattle.std.proofs.lemmas.List.{length-map}
use Rattle.std.proofs.lemmas.Bool.Decides.{nat_tests}
use Rattle.design_model.specs.EnumWords.{orient_word, status_word}
use Rattle.def_grammar.specs.Parts.{orient, point}
use Rattle.design_model.specs.declared.geometry.Orient.{Orient}
use Rattle.form_meanings.specs.Meaning.{spell_all}
use Rattle.statement_model.specs.Tokens.{Token}
use Rattle.statement_model.specs.Cuts.{Cut, end_of, end_of_all}
use Rattle.statement_model.specs.Form.{spell}
use Rattle.statement_model.specs.Reading.{pos_of}
use Rattle.def_grammar.specs.Components.{Clause, placed, unplaced, Component, clause, component_form, is_placing, placement}
use Rattle.def_grammar.specs.Placing.{placing, is_held}
use Rattle.edit_rules.specs.ComponentEdits.{fixed_part, is_out, place_change, place_plan, placed_text, tokens_of, unplace_changes, unplace_plan}
use Rattle.edit_rules.specs.Plans.{cut_of, cuts_for, lowest, put_apart}
use Rattle.lefdef_tokens.specs.TokenViews.{end_after, pieces_of, span_of, words_of}
use Rattle.lefdef_tokens.specs.declared.token_run.TokenRun.{TokenRun}
use Rattle.place_parts.specs.PlacingViews.{IsPlacing, before_word}
use Rattle.def_splice.specs.SpliceViews.{clause_cut, is_placed}

end_is : (p : Token) (ps : List Token) → end_after (end_of p) ps ≡ end_of_all (p ∷ ps)
end_is p [] = refl
end_is p (q ∷ qs) = end_is q qs

pub span_end : (ps : List Token) → (span_of ps).hi ≡ end_of_all ps
span_end [] = refl
span_end (p ∷ ps) = end_is p ps

pub span_start : (ps : List Token) → (span_of ps).lo ≡ pos_of ps
span_start [] = refl
span_start (p ∷ ps) = refl

pub if_ok : {T E : Type 0} {P Q : T → Type 0} (r : Result T E) → ((x : T) → P x → Q x) → IfOk r P → IfOk r Q
if_ok (Ok x) f h = f x h
if_ok (Err e) f h = h

pub if_all : {T E Q : Type 0} (r : Result T E) → Q → IfOk r (λ _. Q)
if_all (Ok x) q = q
if_all (Err e) q = tt

pub isnt_zero : (n : ℕ) → 0 < n → (n == 0) ≡ false
isnt_zero n some = grind (arith, nat_tests)

-- a clause that places a component has a word after its +
has_word : (c : Clause) → is_placing c ≡ true → 0 < length (spell clause c) - 1
unfolding clause placement point orient
has_word (placed status at o) places =
    let same : spell clause (placed status at o) ≡ codes "+" ∷ status_word status ∷ codes "(" ∷ at.x ∷ at.y ∷ codes ")" ∷ orient_word o ∷ [] = refl in
    subst (λ ws. 0 < length ws - 1) (sym same) (omega arith)
has_word (unplaced rest) places =
    let same : spell clause (unplaced rest) ≡ codes "+" ∷ codes "UNPLACED" ∷ rest = refl in
    subst (λ ws. 0 < length ws - 1) (sym same) (omega arith)
has_word _ places = absurd (cc)

some_same : (a b : Clause) → Some a ≡ Some b → a ≡ b
some_same a b h = cc

first_places : (cs : List Clause) (c : Clause) → placing cs ≡ Some c → is_placing c ≡ true
first_places [] c e = absurd (cc)
first_places (d ∷ ds) c e = elim (cases_Bool (is_placing d)) [
  | inl is ↦ let k : placing (d ∷ ds) ≡ Some d = rw is refl in rw (← some_same d c (sym k ∙ e)) is
  | inr isnt ↦ let k : placing (d ∷ ds) ≡ placing ds = rw isnt refl in first_places ds c (sym k ∙ e)
]

-- the tokens of an entry but its ;
pub all_but_last : (c : Component) → length (spell component_form c) ≡ (fixed_part c + tokens_of c.clauses) + 1
unfolding component_form
all_but_last c =
    let cs = spell_all (spell clause) c.clauses in
    let a = length-append c.rest (cs ++ codes ";" ∷ []) in
    let b = length-append cs (codes ";" ∷ []) in
    omega (arith, a, b)

module _ (text : List ℕ) (entry : TokenRun) (c : Component) (x y : ℤ) (o : Orient) where
  pub cut_in_place : (run : TokenRun) → IsPlacing c entry run → clause_cut text (pieces_of entry) (Some (pieces_of run)) (placed_text x y o) ≡ cut_of text (pieces_of entry) (place_change x y o c)
  cut_in_place run p =
      let taken = length (spell clause p.old) - 1 in
      let some : (taken == 0) ≡ false = isnt_zero taken (has_word p.old (first_places c.clauses p.old p.places)) in
      rw (p.pieces, p.places, some) refl

  pub cut_at_end : placing c.clauses ≡ None → words_of entry ≡ spell component_form c → clause_cut text (pieces_of entry) None (placed_text x y o) ≡ cut_of text (pieces_of entry) (place_change x y o c)
  cut_at_end none spelled =
      let before = fixed_part c + tokens_of c.clauses in
      let some : (before == 0) ≡ false = isnt_zero before (omega arith) in
      let count : length (pieces_of entry) ≡ length (words_of entry) = sym (length-map (pieces_of entry) (λ p. p.bytes)) in
      let all : length (pieces_of entry) - 1 ≡ fixed_part c + tokens_of c.clauses = let k = count ∙ ap length spelled ∙ all_but_last c in omega (arith, k) in
      rw (all, none, some) refl

  pub cut_of_clause : {C : Type 0} (view : C → Clause) (r : Option (C × TokenRun)) → option_map (λ p. view p.0) r ≡ placing c.clauses → MatchOption r (placing c.clauses ≡ None) (λ p. IsPlacing c entry p.1)
      → words_of entry ≡ spell component_form c
      → clause_cut text (pieces_of entry) (option_map pieces_of (option_map (λ p. p.1) r)) (placed_text x y o) ≡ cut_of text (pieces_of entry) (place_change x y o c)
  cut_of_clause view None is none spelled = cut_at_end none spelled
  cut_of_clause view (Some p) is found spelled = cut_in_place p.1 found

-- nothing refuses a placement of a component that isn't held, to coordinates that a text may hold
pub free_to_place : (x y : ℤ) (o : Orient) (ps : List Token) (c : Component) → is_held (placing c.clauses) ≡ false → is_out x ≡ false → is_out y ≡ false → lowest (place_plan x y o ps c).refusals ≡ None
free_to_place x y o ps c held low high = rw (held, low, high) refl

-- a component that isn't placed stays as it is, and one that is has its clause's tokens replaced
module _ (text : List ℕ) (ps : List Token) (c : Component) where
  pub unplaces_none : placing c.clauses ≡ None → (unplace_plan ps c).changes ≡ []
  unplaces_none none = rw none refl

  not_placed : (old : Clause) → is_placed old ≡ false → unplace_changes ps c (Some old) ≡ []
  not_placed (placed status at o) isnt = absurd (cc)
  not_placed (unplaced rest) isnt = refl
  not_placed _ isnt = refl

  pub unplaces_unplaced : (old : Clause) → placing c.clauses ≡ Some old → is_placed old ≡ false → (unplace_plan ps c).changes ≡ []
  unplaces_unplaced old is isnt = ap (unplace_changes ps c) is ∙ not_placed old isnt

  pub never_held : (old : Option Clause) → placing c.clauses ≡ old → is_held old ≡ false → lowest (unplace_plan ps c).refusals ≡ None
  never_held old is free = rw (is, free) refl

  abbrev one_cut : (own : List Token) → Cut
  one_cut own = put_apart text (pos_of own) (end_of_all own) (codes "UNPLACED")

  cut_of_placed : (old : Clause) (own : List Token) → is_placing old ≡ true → is_placed old ≡ true → own ≡ take (length (spell clause old) - 1) (drop (before_word c) ps) → one_cut own ∷ [] ≡ cuts_for text (unplace_changes ps c (Some old))
  cut_of_placed (placed status at o) own places is pieces =
      let taken = length (spell clause (placed status at o)) - 1 in
      let some : (taken == 0) ≡ false = isnt_zero taken (has_word (placed status at o) places) in
      rw (pieces, some) refl
  cut_of_placed _ own places is pieces = absurd (cc)

  pub unplaces_placed : (old : Clause) (entry run : TokenRun) → placing c.clauses ≡ Some old → is_placed old ≡ true → pieces_of entry ≡ ps → IsPlacing c entry run
      → one_cut (pieces_of run) ∷ [] ≡ cuts_for text (unplace_plan ps c).changes
  unplaces_placed old entry run found is whole p =
      let same : p.old ≡ old = some_same p.old old (sym p.places ∙ found) in
      let own = p.pieces ∙ ap (λ (d : Clause). take (length (spell clause d) - 1) (drop (before_word c) (pieces_of entry))) same ∙ ap (λ (qs : List Token). take (length (spell clause old) - 1) (drop (before_word c) qs)) whole in
      cut_of_placed old (pieces_of run) (first_places c.clauses old found) is own ∙ ap (λ (d : Option Clause). cuts_for text (unplace_changes ps c d)) (sym found)

-- an entry has its name, its macro and more
pub some_words : (c : Component) → 3 ≤ length (spell component_form c)
some_words c = let k = all_but_last c in omega (arith, k)

-- the design of a text that reads
pub design_of : (r : Result (List Record) Fault) → IsOk r → (design : List Record) × (r ≡ Ok design)
design_of (Ok design) reads = (design, refl)
design_of (Err f) reads = absurd (cc)

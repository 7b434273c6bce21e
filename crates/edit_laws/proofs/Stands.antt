-- A statement among others that read: the tokens before and after it, and what they read as.
use Rattle.std.proofs.Common.{◌≡◌, ℕ, List, [], ◌∷◌, ◌++◌, map, zip, Option, None, Result, Ok, Err, refl, sym, ap, ap₂, subst, ◌∙◌, append-nil, ⊎_elim, true, false, Some}
use Rattle.std.proofs.lemmas.Bool.{cases_Bool as cases}
use Rattle.design_model.specs.declared.fault.Fault.{Fault}
use Rattle.design_model.specs.declared.fault.FaultCode.{FaultCode}
use Rattle.statement_model.specs.Tokens.{Token, Lexed}
use Rattle.statement_model.specs.Boundaries.{Ending, statements}
use Rattle.statement_model.specs.Folds.{◌>>◌, all_from}
use Rattle.statement_model.specs.Grammar.{Key, Grammar}
use Rattle.statement_model.specs.Reading.{read_one, ended, at_last, read_from}
use Rattle.statement_laws.specs.ReadingLaws.{ReadsAs}
use Rattle.statement_laws.proofs.Reading.{statements_by_steps, reading_by_steps}
use Rattle.edit_laws.proofs.SameWords.{has_read, then_goes, ok_same}

abbrev pub firsts : {A B : Type 0} → List (A × B) → List A
firsts = map (λ x. x.0)

abbrev pub seconds : {A B : Type 0} → List (A × B) → List B
seconds = map (λ x. x.1)

module _ {M R : Type 0} (g : Grammar M R) where
  abbrev pub Read : Type 0
  Read = List R × (M × List Key)

  read_same : (x y : Read) → ◌≡◌ {A = Result Read Fault} (Ok x) (Ok y) → x ≡ y
  read_same x y e = ok_same x y e

  -- the first statement, and those after it
  pub record FirstRead (state : M × List Key) (s : List Token) (ss : List (List Token)) (x : Read) : Type 0 where
    pub one : R × (M × List Key)
    pub others : Read
    pub is : x ≡ (one.0 ∷ others.0, others.1)
    pub one_read : read_one g state s ≡ Ok one
    pub others_read : all_from (read_one g) one.1 ss ≡ Ok others

  pub first_read : (state : M × List Key) (s : List Token) (ss : List (List Token)) (x : Read) → all_from (read_one g) state (s ∷ ss) ≡ Ok x → FirstRead state s ss x
  unfolding all_from
  first_read state s ss x e =
      let one = has_read (read_one g state s) _ x e in
      let others = has_read (all_from (read_one g) one.0.1 ss) _ x one.2 in
      let y : Read = (one.0.0 ∷ others.0.0, others.0.1) in
      record { one = one.0; others = others.0; is = sym (read_same y x others.2); one_read = one.1; others_read = others.1 }

  pub none_read : (state : M × List Key) (x : Read) → all_from (read_one g) state [] ≡ Ok x → x ≡ ([], state)
  unfolding all_from
  none_read state x e = let y : Read = ([], state) in sym (read_same y x e)

  -- statements that read, with their records
  pub zipped : (state : M × List Key) (ss : List (List Token)) (x : Read) → all_from (read_one g) state ss ≡ Ok x → (firsts (zip ss x.0) ≡ ss) × (seconds (zip ss x.0) ≡ x.0)
  zipped state [] x e = let same = none_read state x e in rw same (refl, refl)
  zipped state (s ∷ ss) x e =
      let f = first_read state s ss x e in
      let r = zipped f.one.1 ss f.others f.others_read in
      let is = f.is in
      rw is (ap (λ (l : List (List Token)). s ∷ l) r.0, ap (λ (l : List R). f.one.0 ∷ l) r.1)

  -- a statement among others that read
  pub record Split (state : M × List Key) (ss : List (List Token)) (x : Read) (first : List (List Token × R)) (s : List Token) (rec : R) (others : List (List Token × R)) : Type 0 where
    pub at : M × List Key
    pub after : M × List Key
    pub statements : ss ≡ firsts first ++ s ∷ firsts others
    pub records : x.0 ≡ seconds first ++ rec ∷ seconds others
    pub first_read : all_from (read_one g) state (firsts first) ≡ Ok (seconds first, at)
    pub one_read : read_one g at s ≡ Ok (rec, after)
    pub others_read : all_from (read_one g) after (firsts others) ≡ Ok (seconds others, x.1)

  -- one record before others
  abbrev one_before : R → Read → Result Read Fault
  one_before rec y = Ok (rec ∷ y.0, y.1)

  -- one more before it
  split_more : (state : M × List Key) (t : List Token) (ss : List (List Token)) (x : Read) (f : FirstRead state t ss x) (first : List (List Token × R)) (s : List Token) (rec : R) (others : List (List Token × R))
      → Split f.one.1 ss f.others first s rec others → Split state (t ∷ ss) x ((t, f.one.0) ∷ first) s rec others
  unfolding all_from
  split_more state t ss x f first s rec others p =
      let is = f.is in
      let y : Read = (seconds first, p.at) in
      record {
        at = p.at;
        after = p.after;
        statements = ap (λ (l : List (List Token)). t ∷ l) p.statements;
        records = ap (λ (y : Read). y.0) is ∙ ap (λ (l : List R). f.one.0 ∷ l) p.records;
        first_read = then_goes (read_one g state t) (λ one. (all_from (read_one g) one.1 (firsts first) >> one_before one.0)) f.one f.one_read
            ∙ then_goes (all_from (read_one g) f.one.1 (firsts first)) (one_before f.one.0) y p.first_read;
        one_read = p.one_read;
        others_read = p.others_read ∙ ap (λ (y : Read). Ok (seconds others, y.1)) (sym is);
      }

  -- the first of all
  split_here : (state : M × List Key) (t : List Token) (ss : List (List Token)) (x : Read) (f : FirstRead state t ss x) → Split state (t ∷ ss) x [] t f.one.0 (zip ss f.others.0)
  unfolding all_from
  split_here state t ss x f =
      let is = f.is in
      let z = zipped f.one.1 ss f.others f.others_read in
      record {
        at = state;
        after = f.one.1;
        statements = ap (λ (l : List (List Token)). t ∷ l) (sym z.0);
        records = ap (λ (y : Read). y.0) is ∙ ap (λ (l : List R). f.one.0 ∷ l) (sym z.1);
        first_read = refl;
        one_read = f.one_read;
        others_read = ap (all_from (read_one g) f.one.1) z.0 ∙ (f.others_read ∙ ap₂ (λ (l : List R) (m : M × List Key). Ok (l, m)) (sym z.1) (ap (λ (y : Read). y.1) (sym is)));
      }

  pub split : (state : M × List Key) (ss : List (List Token)) (x : Read) (first : List (List Token × R)) (s : List Token) (rec : R) (others : List (List Token × R)) → all_from (read_one g) state ss ≡ Ok x
      → zip ss x.0 ≡ first ++ (s, rec) ∷ others → Split state ss x first s rec others
  split state [] x [] s rec others e z = absurd (cc)
  split state [] x (u ∷ first) s rec others e z = absurd (cc)
  split state (t ∷ ss) x [] s rec others e z =
      let f = first_read state t ss x e in
      let all : (t, f.one.0) ∷ zip ss f.others.0 ≡ (s, rec) ∷ others = ap (λ (y : Read). zip (t ∷ ss) y.0) (sym f.is) ∙ z in
      let here : ◌≡◌ {A = List Token × R} (t, f.one.0) (s, rec) = cc in
      let rest : zip ss f.others.0 ≡ others = cc in
      let now = split_here state t ss x f in
      subst (λ (o : List (List Token × R)). Split state (t ∷ ss) x [] s rec o) rest
      (subst (λ (y : List Token × R). Split state (t ∷ ss) x [] y.0 y.1 (zip ss f.others.0)) here now)
  split state (t ∷ ss) x (u ∷ first) s rec others e z =
      let f = first_read state t ss x e in
      let all : (t, f.one.0) ∷ zip ss f.others.0 ≡ u ∷ (first ++ (s, rec) ∷ others) = ap (λ (y : Read). zip (t ∷ ss) y.0) (sym f.is) ∙ z in
      let here : (t, f.one.0) ≡ u = cc in
      let rest : zip ss f.others.0 ≡ first ++ (s, rec) ∷ others = cc in
      let later = split f.one.1 ss f.others first s rec others f.others_read rest in
      subst (λ (y : List Token × R). Split state (t ∷ ss) x (y ∷ first) s rec others) here (split_more state t ss x f first s rec others later)

  -- nothing is left over at the end, and nothing is read there
  ended_none : (state : M × List Key) (n : ℕ) (o : Option FaultCode) (later : List R) → ended g state n o ≡ Ok later → later ≡ []
  ended_none state n None later e = cc
  ended_none state n (Some code) later e = absurd (cc)

  at_end : (state : M × List Key) (ps : List Token) (end : Result ℕ Fault) (later : List R) → at_last g state ps end ≡ Ok later → (ps ≡ []) × (later ≡ [])
  at_end state ps (Err f) later e = absurd (cc)
  at_end state (p ∷ ps) (Ok n) later e = absurd (cc)
  at_end state [] (Ok n) later e = ⊎_elim
      (λ (may : g.may_end state.0 ≡ true). let h = rw may at e in (refl, ended_none state n (g.lacks state.1) later h))
      (λ (no : g.may_end state.0 ≡ false). let h = rw no at e in absurd (cc))
      (cases (g.may_end state.0))

  module _ (ending : List ℕ → Ending) (ends : (m : M) → g.ending m ≡ ending) where
    -- tokens that read to their end
    pub record WholeText (state : M × List Key) (l : Lexed) (recs : List R) : Type 0 where
      pub end : M × List Key
      pub read : all_from (read_one g) state (statements ending [] l.pieces).0 ≡ Ok (recs, end)
      pub none : (statements ending [] l.pieces).1 ≡ []
      pub ended : at_last g end [] l.end ≡ Ok []

    pub whole_text : (state : M × List Key) (l : Lexed) (recs : List R) → read_from g state l ≡ Ok recs → WholeText state l recs
    whole_text state l recs e =
        let s = statements ending [] l.pieces in
        let steps = sym (reading_by_steps g ending ends state [] l.pieces l.end) ∙ e in
        let all = has_read (all_from (read_one g) state s.0) _ recs steps in
        let last = has_read (at_last g all.0.1 s.1 l.end) _ recs all.2 in
        let none = at_end all.0.1 s.1 l.end last.0 last.1 in
        let same : all.0.0 ≡ recs = sym (append-nil all.0.0) ∙ (ap (λ (later : List R). all.0.0 ++ later) (sym none.1) ∙ ok_same (all.0.0 ++ last.0) recs last.2) in
        record {
          end = all.0.1;
          read = all.1 ∙ ap (λ (l : List R). Ok (l, all.0.1)) same;
          none = none.0;
          ended = ap (λ (left : List Token). at_last g all.0.1 left l.end) (sym none.0) ∙ (last.1 ∙ ap (λ (later : List R). Ok later) none.1);
        }

    -- statements that tokens are cut into, read
    pub cut_reads : (state after : M × List Key) (ps : List Token) (ss : List (List Token)) (recs : List R) → statements ending [] ps ≡ (ss, []) → all_from (read_one g) state ss ≡ Ok (recs, after) → ReadsAs g state ps recs after
    cut_reads state after ps ss recs cut read =
        let x : Read = (recs, after) in
        statements_by_steps g ending ends state [] ps
        ∙ (ap (λ (s : List (List Token) × List Token). all_from (read_one g) state s.0 >> with_left s.1) cut ∙ then_goes (all_from (read_one g) state ss) (with_left []) x read)
      where
        with_left : List Token → Read → Result (List R × (M × List Key) × List Token) Fault
        with_left left x = Ok (x.0, x.1, left)

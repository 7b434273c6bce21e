-- A text has no more tokens than bytes, and the records of a text that reads have no more words than it has tokens.
use Rattle.std.proofs.Common.{◌≡◌, ◌≤◌, ℕ, ◌+◌, Bool, true, false, List, [], ◌∷◌, ◌++◌, length, Option, Some, None, Result, Ok, Err, refl, ap, ⊎_elim, arith, sum_by, if◌then◌else◌}
use Rattle.std.specs.Prelude.{◌==◌, nat_lt}
use Rattle.design_model.specs.declared.token_kind.TokenKind.TheVariants.{Word, Quoted}
use Rattle.std.proofs.lemmas.Bool.{cases_Bool as cases, ltb-false}
use Rattle.std.proofs.lemmas.List.{length-append, length-map}
use Rattle.std.proofs.lemmas.List.Sums.{sum_by-cons}
use Rattle.design_model.specs.declared.TheConstants.{MAX_TEXT}
use Rattle.design_model.specs.declared.fault.Fault.{Fault}
use Rattle.design_model.specs.declared.fault.FaultCode.{FaultCode}
use Rattle.statement_model.specs.Tokens.{Open, Token, is_refused, is_white, closes, lex, next_open, ended_by, tokens}
use Rattle.statement_model.specs.Tokens.Open.{between, comment, word, string}
use Rattle.statement_model.specs.Boundaries.{words, is_whole}
use Rattle.statement_model.specs.Folds.{◌>>◌}
use Rattle.statement_model.specs.Form.{Fits, spell, whole}
use Rattle.statement_model.specs.Grammar.{Key, Grammar}
use Rattle.statement_model.specs.Reading.{repeats, checked, formed, read_form, unless_repeated, read_one, ended, at_last, read_on, read_from, read_text}
use Rattle.statement_laws.specs.FormLaws.{FormsAreSpelled}
use Rattle.number_laws.proofs.GoodRecords.{has_read, ok_same}

-- a word that is open is a token more
abbrev begun : Open → ℕ
begun between = 0
begun comment = 0
begun (word start bytes) = 1
begun (string start bytes last) = 0

-- what a byte ends, and what is open after it
step : (pos : ℕ) (o : Open) (b : ℕ) → length (ended_by o b) + begun (next_open pos o b) ≤ begun o + 1
step pos between b = by (is_white b) (b == 35) (b == 34)
  where
    by : (white hash quote : Bool) → 0 + begun (if white then between else (if hash then comment else (if quote then string pos (b ∷ []) b else word pos (b ∷ [])))) ≤ 0 + 1
    by true hash quote = omega arith
    by false true quote = omega arith
    by false false true = omega arith
    by false false false = omega arith
step pos comment b = by (b == 10)
  where
    by : (line : Bool) → 0 + begun (if line then between else comment) ≤ 0 + 1
    by true = omega arith
    by false = omega arith
step pos (word start bytes) b = by (is_white b)
  where
    by : (white : Bool) → length {A = Token} (if white then record { kind = Word; bytes = bytes; pos = start } ∷ [] else []) + begun (if white then between else word start (bytes ++ b ∷ [])) ≤ 1 + 1
    by true = omega arith
    by false = omega arith
step pos (string start bytes last) b = by (closes last b)
  where
    by : (end : Bool) → length {A = Token} (if end then record { kind = Quoted; bytes = bytes ++ b ∷ []; pos = start } ∷ [] else []) + begun (if end then between else string start (bytes ++ b ∷ []) b) ≤ 0 + 1
    by true = omega arith
    by false = omega arith

lexed : (pos : ℕ) (o : Open) (bs : List ℕ) → length (lex pos o bs).pieces ≤ length bs + begun o
unfolding lex
lexed pos between [] = omega arith
lexed pos comment [] = omega arith
lexed pos (word start bytes) [] = omega arith
lexed pos (string start bytes last) [] = omega arith
lexed pos o (b ∷ bs) = ⊎_elim
    (λ (is : is_refused b ≡ true). rw is (omega arith))
    (λ (no : is_refused b ≡ false). rw no (
    let later = lexed (pos + 1) (next_open pos o b) bs in
    let here = step pos o b in
    omega (arith, here, later, length-append (ended_by o b) (lex (pos + 1) (next_open pos o b) bs).pieces)))
    (cases (is_refused b))

pub tokens_are_fewer : (text : List ℕ) → length (tokens text).pieces ≤ length text
tokens_are_fewer text = let r = lexed 0 between text in omega (arith, r)

module _ {M R : Type 0} (g : Grammar M R) (spelled : FormsAreSpelled g) (weight : R → ℕ) (light : (m : M) (r : R) → Fits (g.form m) r [] → weight r ≤ length (spell (g.form m) r)) where
  -- what a statement's tokens read as weighs no more than they are
  checked_light : (m : M) (ps : List Token) (rec : R) (bad : Option ℕ) (x : R × M) → whole (g.form m) (words ps) ≡ Some (rec, bad) → checked g m ps rec bad ≡ Ok x → weight x.0 ≤ length ps
  checked_light m ps rec None x form e =
      let shown = (spelled m).0 (words ps) rec None form in
      let y : R × M = (rec, g.after m rec) in
      let same : rec ≡ x.0 = ap (λ (z : R × M). z.0) (ok_same y x e) in
      let long : length (words ps) ≡ length (spell (g.form m) rec) = ap length shown.0 in
      let is_light = light m rec shown.1 in
      rw (← same) (omega (arith, long, is_light, length-map ps (λ (p : Token). p.bytes)))
  checked_light m ps rec (Some left) x form e = absurd (cc)

  formed_light : (m : M) (ps : List Token) (o : Option (R × Option ℕ)) (x : R × M) → whole (g.form m) (words ps) ≡ o → formed g m ps o ≡ Ok x → weight x.0 ≤ length ps
  formed_light m ps None x form e = absurd (cc)
  formed_light m ps (Some y) x form e = checked_light m ps y.0 y.1 x form e

  unrepeated : (ps : List Token) (o : Option FaultCode) (rec : R) (m : M) (seen : List Key) (x : R × (M × List Key)) → unless_repeated g ps o rec m seen ≡ Ok x → rec ≡ x.0
  unrepeated ps None rec m seen x e = cc
  unrepeated ps (Some code) rec m seen x e = absurd (cc)

  one_light : (state : M × List Key) (ps : List Token) (x : R × (M × List Key)) → read_one g state ps ≡ Ok x → weight x.0 ≤ length ps
  one_light state ps x e =
      let form = has_read (read_form g state.0 ps) (λ x. unless_repeated g ps (repeats state.1 (g.key x.0)) x.0 x.1 state.1) x e in
      let same = unrepeated ps (repeats state.1 (g.key form.0.0)) form.0.0 form.0.1 state.1 x form.2 in
      rw (← same) (formed_light state.0 ps (whole (g.form state.0) (words ps)) form.0 refl form.1)

  -- at the end of a text there are none
  ended_none : (state : M × List Key) (n : ℕ) (o : Option FaultCode) (recs : List R) → ended g state n o ≡ Ok recs → recs ≡ []
  ended_none state n None recs e = cc
  ended_none state n (Some code) recs e = absurd (cc)

  may_none : (b : Bool) (state : M × List Key) (n : ℕ) (o : Option FaultCode) (f : Fault) (recs : List R) → (if b then ended g state n o else Err f) ≡ Ok recs → recs ≡ []
  may_none true state n o f recs e = ended_none state n o recs e
  may_none false state n o f recs e = absurd (cc)

  last_none : (state : M × List Key) (ps : List Token) (end : Result ℕ Fault) (recs : List R) → at_last g state ps end ≡ Ok recs → recs ≡ []
  last_none state ps (Err f) recs e = absurd (cc)
  last_none state [] (Ok n) recs e = may_none (g.may_end state.0) state n (g.lacks state.1) _ recs e
  last_none state (p ∷ ps) (Ok n) recs e = absurd (cc)

  light_on : (state : M × List Key) (before ps : List Token) (end : Result ℕ Fault) (recs : List R) → read_on g state before ps end ≡ Ok recs → sum_by weight recs ≤ length before + length ps
  unfolding read_on
  light_on state before [] end recs e = rw (last_none state before end recs e) (omega arith)
  light_on state before (p ∷ ps) end recs e = ⊎_elim
      (λ (is : is_whole (g.ending state.0) (before ++ p ∷ []) ≡ true).
      let here = has_read (read_one g state (before ++ p ∷ [])) (λ x. (read_on g x.1 [] ps end >> λ later. Ok (x.0 ∷ later))) recs (rw is at e) in
      let later = has_read (read_on g here.0.1 [] ps end) (λ later. Ok (here.0.0 ∷ later)) recs here.2 in
      let first = one_light state (before ++ p ∷ []) here.0 here.1 in
      let rest = light_on here.0.1 [] ps end later.0 later.1 in
      rw (← ok_same (here.0.0 ∷ later.0) recs later.2) (omega (arith, first, rest, sum_by-cons weight here.0.0 later.0, length-append before (p ∷ []))))
      (λ (more : is_whole (g.ending state.0) (before ++ p ∷ []) ≡ false).
      let rest = light_on state (before ++ p ∷ []) ps end recs (rw more at e) in
      omega (arith, rest, length-append before (p ∷ [])))
      (cases (is_whole (g.ending state.0) (before ++ p ∷ [])))

  -- a text that isn't too long
  if_read : (b : Bool) (x : Fault) (r : Result (List R) Fault) (a : List R) → (if b then Err x else r) ≡ Ok a → (b ≡ false) × (r ≡ Ok a)
  if_read true x r a e = absurd (cc)
  if_read false x r a e = (refl, e)

  -- Where no record that stands in its form weighs more than the words it is spelled with, the records of a text that reads
  -- weigh no more than the longest text has bytes.
  pub text_is_light : (m : M) (text : List ℕ) (recs : List R) → read_text g m text ≡ Ok recs → sum_by weight recs ≤ MAX_TEXT
  unfolding read_text
  text_is_light m text recs e =
      let r = if_read (nat_lt MAX_TEXT (length text)) _ (read_from g (m, []) (tokens text)) recs e in
      let all = light_on (m, []) [] (tokens text).pieces (tokens text).end recs r.1 in
      let fewer = tokens_are_fewer text in
      let short = ltb-false MAX_TEXT (length text) r.0 in
      omega (arith, all, fewer, short)

-- Reading a whole text, one statement after the other.
use Rattle.std.proofs.Common.{◌≡◌, ℕ, true, List, [], ◌∷◌, ◌++◌, length, nat_lt, map, refl, sym, ap, ◌∙◌, inl, inr, Option, Some, None, Result, Ok, Err}
use Rattle.std.proofs.lemmas.Bool.{cases_Bool}
use Rattle.std.proofs.lemmas.List.{append-nil}
use Rattle.design_model.specs.declared.TheConstants.{MAX_TEXT}
use Rattle.design_model.specs.declared.fault.Fault.{Fault}
use Rattle.design_model.specs.declared.fault.FaultCode.{FaultCode}
use Rattle.design_model.specs.declared.fault.FaultCode.TheVariants.{Unfinished}
use Rattle.form_meanings.proofs.Steps.{some_same}
use Rattle.statement_model.specs.Tokens.{Token, Lexed, tokens}
use Rattle.statement_model.specs.Boundaries.{Ending, is_whole, cut, statement_at, statement_from, unfinished}
use Rattle.statement_model.specs.Folds.{◌>>◌}
use Rattle.statement_model.specs.Grammar.{Key, Grammar}
use Rattle.statement_model.specs.Reading.{read_form, read_one, read_on, read_at, read_found, read_from, read_text, at_last, ended, nothing_left, with_left, unless_repeated, repeats, with_key, fault_at}
use Rattle.statement_reader.specs.Located.{located_on, located_from}
use Rattle.statement_reader.specs.ReadingLaws.{FaultsStop, RepeatsStop, ReadingGoesOn, ReadingEnds, BeginsWith, RecordsAreRead, RecordsAreLocated}

found_same : {A F : Type 0} (x y : A) → ◌≡◌ {A = Result (Option A) F} (Ok (Some x)) (Ok (Some y)) → x ≡ y
found_same x y e = cc

ok_same : {A F : Type 0} (x y : A) → ◌≡◌ {A = Result A F} (Ok x) (Ok y) → x ≡ y
ok_same x y e = cc

err_same : {A B F : Type 0} (e f : F) → ◌≡◌ {A = Result A F} (Err e) (Err f) → ◌≡◌ {A = Result B F} (Err e) (Err f)
err_same {F = F} e f h = let same : e ≡ f = cc in ap (λ (z : F). Err z) same

append_more : {A : Type 0} (before : List A) (p : A) (ps : List A) → (before ++ p ∷ []) ++ ps ≡ before ++ p ∷ ps
append_more [] p ps = refl
append_more (b ∷ bs) p ps = ap (λ z. b ∷ z) (append_more bs p ps)

-- what came before in a chain that gave something
then_ok : {A B F : Type 0} (r : Result A F) (f : A → Result B F) (b : B) → (r >> f) ≡ Ok b → (a : A) × (r ≡ Ok a) × (f a ≡ Ok b)
then_ok (Ok a) f b h = (a, refl, h)
then_ok (Err e) f b h = absurd (cc)

module _ (e : List ℕ → Ending) where
  abbrev pub CutTo : Lexed → List Token → Lexed → Option (List Token × List Token) → Type 0
  CutTo l ps left found = (found ≡ Some (ps, left.pieces)) × (left.end ≡ l.end)

  -- a statement that was found is cut, and what is left comes after it
  none_found : (l left : Lexed) (ps qs : List Token) (end : Result ℕ Fault) → unfinished qs end ≡ Ok (Some (ps, left)) → CutTo l ps left None
  none_found l left ps qs (Err f) k = absurd (cc)
  none_found l left ps [] (Ok n) k = absurd (cc)
  none_found l left ps (q ∷ qs) (Ok n) k = absurd (cc)

  found_cut : (l left : Lexed) (ps : List Token) (found : Option (List Token × List Token)) → statement_from found l ≡ Ok (Some (ps, left)) → CutTo l ps left found
  found_cut l left ps (Some x) h =
      let a : List Token × Lexed = (x.0, record { pieces = x.1; end = l.end }) in
      let b : List Token × Lexed = (ps, left) in
      let same = found_same a b h in
      (ap (λ (z : List Token × Lexed). Some (z.0, z.1.pieces)) same, sym (ap (λ (z : List Token × Lexed). z.1.end) same))
  found_cut l left ps None h = none_found l left ps l.pieces l.end h

  pub is_cut : (l left : Lexed) (ps : List Token) → statement_at e l ≡ Ok (Some (ps, left)) → CutTo l ps left (cut e [] l.pieces)
  unfolding statement_at
  is_cut l left ps h = found_cut l left ps (cut e [] l.pieces) h

module _ {M R : Type 0} (g : Grammar M R) where
  -- a statement that is cut is read first
  reads_first : (m : M) (seen : List Key) (end : Result ℕ Fault) (ps before s later : List Token) → cut (g.ending m) before ps ≡ Some (s, later)
      → read_on g (m, seen) before ps end ≡ (read_one g (m, seen) s >> λ x. (read_on g x.1 [] later end >> λ recs. Ok (x.0 ∷ recs)))
  unfolding read_on cut
  reads_first m seen end [] before s later h = absurd (cc)
  reads_first m seen end (p ∷ ps) before s later h = elim (cases_Bool (is_whole (g.ending m) (before ++ p ∷ []))) [
    | inl whole ↦
        let k = rw whole at h in
        let x : List Token × List Token = (before ++ p ∷ [], ps) in
        let y : List Token × List Token = (s, later) in
        rw whole (ap (λ (z : List Token × List Token). read_one g (m, seen) z.0 >> λ x. (read_on g x.1 [] z.1 end >> λ recs. Ok (x.0 ∷ recs))) (some_same x y k))
    | inr more ↦ let k = rw more at h in rw more (reads_first m seen end ps (before ++ p ∷ []) s later k)
  ]

  -- where none is cut, the tokens are the last
  reads_last : (m : M) (seen : List Key) (end : Result ℕ Fault) (ps before : List Token) → cut (g.ending m) before ps ≡ None
      → read_on g (m, seen) before ps end ≡ at_last g (m, seen) (before ++ ps) end
  unfolding read_on cut
  reads_last m seen end [] before h = ap (λ (z : List Token). at_last g (m, seen) z end) (sym (append-nil before))
  reads_last m seen end (p ∷ ps) before h = elim (cases_Bool (is_whole (g.ending m) (before ++ p ∷ []))) [
    | inl whole ↦ let k = rw whole at h in absurd (cc)
    | inr more ↦
        let k = rw more at h in
        rw more (reads_last m seen end ps (before ++ p ∷ []) k ∙ ap (λ (z : List Token). at_last g (m, seen) z end) (append_more before p ps))
  ]

  -- what a form that was read says
  form_of : (left : Lexed) (x : Result (R × M) Fault) (rec : R) (after : M) (later : Lexed) → with_left g left x ≡ Ok (Some (rec, after, later)) → (x ≡ Ok (rec, after)) × (left ≡ later)
  form_of left (Ok y) rec after later k =
      let a : R × M × Lexed = (y.0, y.1, left) in
      let b : R × M × Lexed = (rec, after, later) in
      let same = found_same a b k in
      (ap (λ (z : R × M × Lexed). Ok (z.0, z.1)) same, ap (λ (z : R × M × Lexed). z.2) same)
  form_of left (Err f) rec after later k = absurd (cc)

  pub form_fault : (left : Lexed) (x : Result (R × M) Fault) (f : Fault) → with_left g left x ≡ Err f → x ≡ Err f
  form_fault left (Ok y) f k = absurd (cc)
  form_fault left (Err e) f k = err_same e f k

  -- the form of a statement that was read
  pub form_read : (m after : M) (l left : Lexed) (ps : List Token) (rec : R) → statement_at (g.ending m) l ≡ Ok (Some (ps, left)) → read_at g m l ≡ Ok (Some (rec, after, left))
      → read_form g m ps ≡ Ok (rec, after)
  unfolding read_at
  form_read m after l left ps rec h r = (form_of left (read_form g m ps) rec after left (sym (ap (read_found g m l) h) ∙ r)).0

  -- a record has a statement
  none_has_no_record : (m : M) (end : Result ℕ Fault) (x : R × M × Lexed) → nothing_left g m end ≡ Ok (Some x) → ⊥
  none_has_no_record m (Err f) x h = cc
  none_has_no_record m (Ok n) x h = elim (cases_Bool (g.may_end m)) [ inl may ↦ let k = rw may at h in cc | inr others ↦ let k = rw others at h in cc ]

  abbrev pub HasStatement : Lexed → Result (Option (List Token × Lexed)) Fault → Type 0
  HasStatement left found = (ps : List Token) × (found ≡ Ok (Some (ps, left)))

  found_record : (m after : M) (l left : Lexed) (rec : R) (found : Result (Option (List Token × Lexed)) Fault) → read_found g m l found ≡ Ok (Some (rec, after, left)) → HasStatement left found
  found_record m after l left rec (Err f) h = absurd (cc)
  found_record m after l left rec (Ok None) h = absurd (none_has_no_record m l.end (rec, after, left) h)
  found_record m after l left rec (Ok (Some x)) h =
      let is = form_of x.1 (read_form g m x.0) rec after left h in
      (x.0, ap (λ (z : Lexed). Ok (Some (x.0, z))) is.1)

  pub has_statement : (m after : M) (l left : Lexed) (rec : R) → read_at g m l ≡ Ok (Some (rec, after, left)) → HasStatement left (statement_at (g.ending m) l)
  unfolding read_at
  has_statement m after l left rec h = found_record m after l left rec (statement_at (g.ending m) l) h

  -- a statement with a fault
  last_fault : (m : M) (seen : List Key) (l : Lexed) (f : Fault) (qs : List Token) (end : Result ℕ Fault) → l.end ≡ end → read_found g m l (unfinished qs end) ≡ Err f
      → at_last g (m, seen) qs end ≡ Err f
  last_fault m seen l f qs (Err e) is h = err_same e f h
  last_fault m seen l f (q ∷ qs) (Ok n) is h = err_same (fault_at Unfinished q.pos) f h
  last_fault m seen l f [] (Ok n) is h =
      let k : nothing_left g m (Ok n) ≡ Err f = ap (nothing_left g m) (sym is) ∙ h in
      elim (cases_Bool (g.may_end m)) [
        | inl may ↦ let none = rw may at k in absurd (cc)
        | inr others ↦ let none = rw others at k in rw others (err_same (fault_at Unfinished n) f none)
      ]

  cut_fault : (m : M) (seen : List Key) (l : Lexed) (f : Fault) (found : Option (List Token × List Token)) → cut (g.ending m) [] l.pieces ≡ found → read_found g m l (statement_from found l) ≡ Err f
      → read_from g (m, seen) l ≡ Err f
  cut_fault m seen l f None c h = reads_last m seen l.end l.pieces [] c ∙ last_fault m seen l f l.pieces l.end refl h
  cut_fault m seen l f (Some x) c h =
      let form = form_fault (record { pieces = x.1; end = l.end }) (read_form g m x.0) f h in
      reads_first m seen l.end l.pieces [] x.0 x.1 c ∙ rw form refl

  pub faults_stop : FaultsStop g
  unfolding read_at statement_at
  faults_stop m seen l f h = cut_fault m seen l f (cut (g.ending m) [] l.pieces) refl h

  pub repeats_stop : RepeatsStop g
  repeats_stop m after seen l left ps rec code at read again =
      let c = is_cut (g.ending m) l left ps at in
      let form = form_read m after l left ps rec at read in
      reads_first m seen l.end l.pieces [] ps left.pieces c.0 ∙ rw (form, again) refl

  pub reading_goes_on : ReadingGoesOn g
  reading_goes_on m after seen l left rec read fresh =
      let found = has_statement m after l left rec read in
      let c = is_cut (g.ending m) l left found.0 found.1 in
      let form = form_read m after l left found.0 rec found.1 read in
      reads_first m seen l.end l.pieces [] found.0 left.pieces c.0 ∙ rw (form, fresh, sym c.1) refl

  -- where no statement is left, no token is left
  abbrev NothingLeft : List Token → Result ℕ Fault → Type 0
  NothingLeft ps end = (ps ≡ []) × ((n : ℕ) × (end ≡ Ok n))

  form_of_none : (left : Lexed) (x : Result (R × M) Fault) → with_left g left x ≡ Ok None → ⊥
  form_of_none left (Ok y) h = cc
  form_of_none left (Err f) h = cc

  last_none : (m : M) (l : Lexed) (qs : List Token) (end : Result ℕ Fault) → read_found g m l (unfinished qs end) ≡ Ok None → NothingLeft qs end
  last_none m l qs (Err f) h = absurd (cc)
  last_none m l (q ∷ qs) (Ok n) h = absurd (cc)
  last_none m l [] (Ok n) h = (refl, (n, refl))

  cut_none : (m : M) (l : Lexed) (found : Option (List Token × List Token)) → read_found g m l (statement_from found l) ≡ Ok None → NothingLeft l.pieces l.end
  cut_none m l None h = last_none m l l.pieces l.end h
  cut_none m l (Some x) h = absurd (form_of_none (record { pieces = x.1; end = l.end }) (read_form g m x.0) h)

  nothing_left_of : (m : M) (l : Lexed) → read_at g m l ≡ Ok None → NothingLeft l.pieces l.end
  unfolding read_at statement_at
  nothing_left_of m l h = cut_none m l (cut (g.ending m) [] l.pieces) h

  may_end_of : (m : M) (n : ℕ) → nothing_left g m (Ok n) ≡ Ok None → g.may_end m ≡ true
  may_end_of m n h = elim (cases_Bool (g.may_end m)) [ inl may ↦ may | inr others ↦ let k = rw others at h in absurd (cc) ]

  may_end_at : (m : M) (l : Lexed) (n : ℕ) → l ≡ record { pieces = []; end = Ok n } → read_at g m l ≡ Ok None → g.may_end m ≡ true
  unfolding read_at statement_at cut
  may_end_at m l n is h = may_end_of m n (sym (ap (read_at g m) is) ∙ h)

  pub reading_ends : ReadingEnds g
  unfolding read_on
  reading_ends m seen l n end none =
      let left = nothing_left_of m l none in
      let is : l ≡ record { pieces = []; end = Ok n } = rw (← left.0, ← end) refl in
      rw (is, may_end_at m l n is none) refl

  -- a text that reads
  ends_with : (m : M) (seen : List Key) (n : ℕ) (recs : List R) (lack : Option FaultCode) → ended g (m, seen) n lack ≡ Ok recs → recs ≡ []
  ends_with m seen n recs None h = sym (ok_same [] recs h)
  ends_with m seen n recs (Some code) h = absurd (cc)

  read_none : (m : M) (seen : List Key) (l : Lexed) (recs : List R) → read_from g (m, seen) l ≡ Ok recs → read_at g m l ≡ Ok None → recs ≡ []
  read_none m seen l recs h none =
      let left = nothing_left_of m l none in
      ends_with m seen left.1.0 recs (g.lacks seen) (sym (reading_ends m seen l left.1.0 left.1.1 none) ∙ h)

  read_some : (m after : M) (seen : List Key) (l left : Lexed) (rec : R) (recs : List R) (again : Option FaultCode) → read_from g (m, seen) l ≡ Ok recs → read_at g m l ≡ Ok (Some (rec, after, left))
      → repeats seen (g.key rec) ≡ again → BeginsWith g seen recs (Ok (Some (rec, after, left)))
  read_some m after seen l left rec recs None h read is =
      let two = then_ok (read_from g (after, with_key (g.key rec) seen) left) (λ rest. Ok (rec ∷ rest)) recs (sym (reading_goes_on m after seen l left rec read is) ∙ h) in
      (two.0, sym (ok_same (rec ∷ two.0) recs two.2), is, two.1)
  read_some m after seen l left rec recs (Some code) h read is =
      let found = has_statement m after l left rec read in
      let fault = sym (repeats_stop m after seen l left found.0 rec code found.1 read is) ∙ h in
      absurd (cc)

  read_as : (m : M) (seen : List Key) (l : Lexed) (recs : List R) (r : Result (Option (R × M × Lexed)) Fault) → read_from g (m, seen) l ≡ Ok recs → read_at g m l ≡ r → BeginsWith g seen recs r
  read_as m seen l recs (Err f) h read = let fault = sym (faults_stop m seen l f read) ∙ h in absurd (cc)
  read_as m seen l recs (Ok None) h read = read_none m seen l recs h read
  read_as m seen l recs (Ok (Some x)) h read = read_some m x.1 seen l x.2 x.0 recs (repeats seen (g.key x.0)) h read refl

  pub records_are_read : RecordsAreRead g
  records_are_read m seen l recs h = read_as m seen l recs (read_at g m l) h refl

  -- what one statement of such a text says
  fresh_one : (seen : List Key) (s : List Token) (rec : R) (after : M) (x : R × (M × List Key)) (again : Option FaultCode) → unless_repeated g s again rec after seen ≡ Ok x
      → x ≡ (rec, (after, with_key (g.key rec) seen))
  fresh_one seen s rec after x None h = sym (ok_same (rec, (after, with_key (g.key rec) seen)) x h)
  fresh_one seen s rec after x (Some code) h = absurd (cc)

  -- one statement, and the records after it
  record_first : (m : M) (seen : List Key) (s : List Token) (later : M × List Key → Result (List R) Fault) (recs : List R)
      → (read_one g (m, seen) s >> λ x. (later x.1 >> λ rest. Ok (x.0 ∷ rest))) ≡ Ok recs
      → (y : R × M) × (rest : List R) × (read_form g m s ≡ Ok y) × (later (y.1, with_key (g.key y.0) seen) ≡ Ok rest) × (y.0 ∷ rest ≡ recs)
  record_first m seen s later recs h =
      let one = then_ok (read_one g (m, seen) s) (λ x. (later x.1 >> λ rest. Ok (x.0 ∷ rest))) recs h in
      let form = then_ok (read_form g m s) (λ y. unless_repeated g s (repeats seen (g.key y.0)) y.0 y.1 seen) one.0 one.1 in
      let y = form.0 in
      let is = fresh_one seen s y.0 y.1 one.0 (repeats seen (g.key y.0)) form.2 in
      let left : (later (y.1, with_key (g.key y.0) seen) >> λ rest. Ok (y.0 ∷ rest)) ≡ Ok recs = rw is at one.2 in
      let two = then_ok (later (y.1, with_key (g.key y.0) seen)) (λ rest. Ok (y.0 ∷ rest)) recs left in
      (y, two.0, form.1, two.1, ok_same (y.0 ∷ two.0) recs two.2)

  last_located : (m : M) (seen : List Key) (before : List Token) (end : Result ℕ Fault) (recs : List R) → at_last g (m, seen) before end ≡ Ok recs → recs ≡ []
  last_located m seen before (Err f) recs h = absurd (cc)
  last_located m seen (p ∷ ps) (Ok n) recs h = absurd (cc)
  last_located m seen [] (Ok n) recs h = elim (cases_Bool (g.may_end m)) [
    | inl may ↦ let k = rw may at h in ends_with m seen n recs (g.lacks seen) k
    | inr others ↦ let k = rw others at h in absurd (cc)
  ]

  located_on_is : (end : Result ℕ Fault) (ps before : List Token) (m : M) (seen : List Key) (recs : List R) → read_on g (m, seen) before ps end ≡ Ok recs
      → map (λ (s : List Token × R). s.1) (located_on g m before ps) ≡ recs
  unfolding read_on located_on
  located_on_is end [] before m seen recs h = sym (last_located m seen before end recs h)
  located_on_is end (p ∷ ps) before m seen recs h = elim (cases_Bool (is_whole (g.ending m) (before ++ p ∷ []))) [
    | inl whole ↦
        let k = rw whole at h in
        let x = record_first m seen (before ++ p ∷ []) (λ state. read_on g state [] ps end) recs k in
        rw (whole, x.2) (ap (λ (rest : List R). x.0.0 ∷ rest) (located_on_is end ps [] x.0.1 (with_key (g.key x.0.0) seen) x.1 x.3) ∙ x.4)
    | inr more ↦ let k = rw more at h in rw more (located_on_is end ps (before ++ p ∷ []) m seen recs k)
  ]

  pub located_from_is : (m : M) (seen : List Key) (l : Lexed) (recs : List R) → read_from g (m, seen) l ≡ Ok recs → map (λ (s : List Token × R). s.1) (located_from g m l) ≡ recs
  located_from_is m seen l recs h = located_on_is l.end l.pieces [] m seen recs h

  pub records_are_located : RecordsAreLocated g
  unfolding read_text
  records_are_located m text recs h = elim (cases_Bool (nat_lt MAX_TEXT (length text))) [
    | inl long ↦ let k = rw long at h in absurd (cc)
    | inr fits ↦ let k = rw fits at h in located_from_is m [] (tokens text) recs k
  ]

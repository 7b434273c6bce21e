-- How tokens read is said by their bytes alone, wherever they stand.
use Rattle.std.proofs.Common.{◌≡◌, ℕ, Bool, true, false, List, [], ◌∷◌, ◌++◌, Option, Some, None, Result, Ok, Err, refl, sym, ap, ◌∙◌, ⊎_elim}
use Rattle.std.proofs.lemmas.Bool.{cases_Bool as cases}
use Rattle.std.proofs.lemmas.List.{map_push}
use Rattle.design_model.specs.declared.fault.Fault.{Fault}
use Rattle.design_model.specs.declared.fault.FaultCode.{FaultCode}
use Rattle.statement_model.specs.Tokens.{Token}
use Rattle.statement_model.specs.Boundaries.{Ending, words, is_alone, is_last, last_of, is_whole}
use Rattle.statement_model.specs.Folds.{◌>>◌}
use Rattle.statement_model.specs.Form.{whole}
use Rattle.statement_model.specs.Grammar.{Key, Grammar}
use Rattle.statement_model.specs.Reading.{repeats, with_key, checked, formed, read_form, unless_repeated, read_one}
use Rattle.statement_laws.specs.ReadingLaws.{read_statements, ReadsAs}

-- where one reading goes on to another, it has read
pub has_read : {A B F : Type 0} (r : Result A F) (f : A → Result B F) (b : B) → (r >> f) ≡ Ok b → (a : A) × (r ≡ Ok a) × (f a ≡ Ok b)
has_read (Ok a) f b e = (a, refl, e)
has_read (Err x) f b e = absurd (cc)

-- so it goes on from what was read
pub then_goes : {A B F : Type 0} (r : Result A F) (f : A → Result B F) (a : A) → r ≡ Ok a → (r >> f) ≡ f a
then_goes {A = A} {F = F} r f a e = ap (λ (s : Result A F). s >> f) e

pub ok_same : {A F : Type 0} (x y : A) → ◌≡◌ {A = Result A F} (Ok x) (Ok y) → x ≡ y
ok_same x y e = cc

-- the last of some words
unfoldable last_word : List ℕ → List (List ℕ) → List ℕ
last_word w [] = w
last_word w (v ∷ vs) = last_word v vs

last_in_words : (p : Token) (ps : List Token) → (last_of p ps).bytes ≡ last_word p.bytes (words ps)
unfolding last_of last_word
last_in_words p [] = refl
last_in_words p (q ∷ qs) = last_in_words q qs

module _ (ending : List ℕ → Ending) where
  -- these words are a whole statement
  abbrev are_whole : List (List ℕ) → Bool
  are_whole [] = false
  are_whole (w ∷ []) = is_alone (ending w)
  are_whole (w ∷ v ∷ vs) = is_last (ending w) (last_word v vs)

  whole_in_words : (ps : List Token) → is_whole ending ps ≡ are_whole (words ps)
  whole_in_words [] = refl
  whole_in_words (p ∷ []) = refl
  whole_in_words (p ∷ q ∷ qs) = ap (is_last (ending p.bytes)) (last_in_words q qs)

  same_whole : (ps qs : List Token) → words ps ≡ words qs → is_whole ending ps ≡ is_whole ending qs
  same_whole ps qs e = whole_in_words ps ∙ (ap are_whole e ∙ sym (whole_in_words qs))

pub no_words : (ps : List Token) → words ps ≡ [] → ps ≡ []
no_words [] e = refl
no_words (p ∷ ps) e = absurd (cc)

-- with one token more
pushed : (ps qs : List Token) (p q : Token) → words ps ≡ words qs → p.bytes ≡ q.bytes → words (ps ++ p ∷ []) ≡ words (qs ++ q ∷ [])
pushed ps qs p q e f =
    map_push (λ (r : Token). r.bytes) ps p
    ∙ (ap (λ (ws : List (List ℕ)). ws ++ p.bytes ∷ []) e
    ∙ (ap (λ (w : List ℕ). words qs ++ w ∷ []) f ∙ sym (map_push (λ (r : Token). r.bytes) qs q)))

module _ {M R : Type 0} (g : Grammar M R) where
  abbrev State : Type 0
  State = M × List Key

  -- a statement that reads has a form with good numbers, and leaves its state
  pub record HasForm (m : M) (ps : List Token) (rec : R) (after : M) : Type 0 where
    pub form : whole (g.form m) (words ps) ≡ Some (rec, None)
    pub next : g.after m rec ≡ after

  checked_has : (m : M) (ps : List Token) (rec : R) (bad : Option ℕ) (x : R × M) → whole (g.form m) (words ps) ≡ Some (rec, bad) → checked g m ps rec bad ≡ Ok x → HasForm m ps x.0 x.1
  checked_has m ps rec None x form e =
      let y : R × M = (rec, g.after m rec) in
      let same : y ≡ x = ok_same y x e in
      rw (← same) (record { form = form; next = refl })
  checked_has m ps rec (Some left) x form e = absurd (cc)

  formed_has : (m : M) (ps : List Token) (o : Option (R × Option ℕ)) (x : R × M) → whole (g.form m) (words ps) ≡ o → formed g m ps o ≡ Ok x → HasForm m ps x.0 x.1
  formed_has m ps None x form e = absurd (cc)
  formed_has m ps (Some y) x form e = checked_has m ps y.0 y.1 x form e

  pub has_form : (m : M) (ps : List Token) (x : R × M) → read_form g m ps ≡ Ok x → HasForm m ps x.0 x.1
  has_form m ps x e = formed_has m ps (whole (g.form m) (words ps)) x refl e

  pub form_reads : (m : M) (ps : List Token) (rec : R) (after : M) → HasForm m ps rec after → read_form g m ps ≡ Ok (rec, after)
  form_reads m ps rec after h = ap (formed g m ps) h.form ∙ ap (λ (k : M). Ok (rec, k)) h.next

  -- it repeats nothing, and what was seen has its key from then on
  pub record ReadsOne (state : M × List Key) (ps : List Token) (rec : R) (after : M × List Key) : Type 0 where
    pub form : HasForm state.0 ps rec after.0
    pub fresh : repeats state.1 (g.key rec) ≡ None
    pub seen : with_key (g.key rec) state.1 ≡ after.1

  fresh_one : (state : M × List Key) (ps : List Token) (m : M) (rec : R) (x : R × (M × List Key)) (o : Option FaultCode) → repeats state.1 (g.key rec) ≡ o → HasForm state.0 ps rec m
      → unless_repeated g ps o rec m state.1 ≡ Ok x → ReadsOne state ps x.0 x.1
  fresh_one state ps m rec x None same form e =
      let y : R × (M × List Key) = (rec, (m, with_key (g.key rec) state.1)) in
      let both : y ≡ x = ok_same y x e in
      rw (← both) (record { form = form; fresh = same; seen = refl })
  fresh_one state ps m rec x (Some code) same form e = absurd (cc)

  pub reads_one : (state : M × List Key) (ps : List Token) (x : R × (M × List Key)) → read_one g state ps ≡ Ok x → ReadsOne state ps x.0 x.1
  reads_one state ps x e =
      let form = has_read (read_form g state.0 ps) _ x e in
      fresh_one state ps form.0.1 form.0.0 x (repeats state.1 (g.key form.0.0)) refl (has_form state.0 ps form.0 form.1) form.2

  pub one_reads : (state after : M × List Key) (ps : List Token) (rec : R) → ReadsOne state ps rec after → read_one g state ps ≡ Ok (rec, after)
  one_reads state after ps rec r = rw (form_reads state.0 ps rec after.0 r.form, r.fresh) (ap (λ (s : List Key). Ok (rec, (after.0, s))) r.seen)

  -- tokens with the words of others read as these do
  pub same_one : (state : M × List Key) (ps qs : List Token) (x : R × (M × List Key)) → words ps ≡ words qs → read_one g state ps ≡ Ok x → read_one g state qs ≡ Ok x
  same_one state ps qs x e r =
      let h = reads_one state ps x r in
      let f : whole (g.form state.0) (words qs) ≡ Some (x.0, None) = ap (whole (g.form state.0)) (sym e) ∙ h.form.form in
      one_reads state x.1 qs x.0 (record { form = record { form = f; next = h.form.next }; fresh = h.fresh; seen = h.seen })

  -- one statement, and then others that read either way
  one_then : {X : Type 0} (with_one : R → X → Result X Fault) (state : M × List Key) (s t : List Token) (x : X) (later also : M × List Key → Result X Fault) → words s ≡ words t
      → ((rec : R) (after : M × List Key) (y : X) → later after ≡ Ok y → with_one rec y ≡ Ok x → also after ≡ Ok y)
      → (read_one g state s >> λ o. (later o.1 >> with_one o.0)) ≡ Ok x → (read_one g state t >> λ o. (also o.1 >> with_one o.0)) ≡ Ok x
  one_then with_one state s t x later also same others_same r =
      let one = has_read (read_one g state s) (λ o. (later o.1 >> with_one o.0)) x r in
      let others = has_read (later one.0.1) (with_one one.0.0) x one.2 in
      let now = others_same one.0.0 one.0.1 others.0 others.1 others.2 in
      then_goes (read_one g state t) (λ o. (also o.1 >> with_one o.0)) one.0 (same_one state s t one.0 same one.1) ∙ (then_goes (also one.0.1) (with_one one.0.0) others.0 now ∙ others.2)

  -- the records of whole statements, the state after them, and the tokens left over
  abbrev Statements : Type 0
  Statements = List R × (M × List Key) × List Token

  same_left : (x y : Statements) → ◌≡◌ {A = Result Statements Fault} (Ok x) (Ok y) → x.2 ≡ y.2
  same_left x y e = ap (λ (z : Statements). z.2) (ok_same x y e)

  -- one record before those of other statements
  abbrev with_one : R → Statements → Result Statements Fault
  with_one rec y = Ok (rec ∷ y.0, y.1, y.2)

  none_over : (rec : R) (x y : Statements) → with_one rec y ≡ Ok x → x.2 ≡ [] → y.2 ≡ []
  none_over rec x y e none = let z : Statements = (rec ∷ y.0, y.1, y.2) in same_left z x e ∙ none

  -- so do whole statements
  pub same_statements : (state : M × List Key) (begun before ps qs : List Token) (x : Statements) → words begun ≡ words before → words ps ≡ words qs
      → read_statements g state begun ps ≡ Ok x → x.2 ≡ [] → read_statements g state before qs ≡ Ok x
  unfolding read_statements
  same_statements state begun before [] [] x b e r none =
      let y : Statements = ([], state, begun) in
      let begun_none : begun ≡ [] = same_left y x r ∙ none in
      let also : before ≡ begun = no_words before (sym b ∙ ap words begun_none) ∙ sym begun_none in
      ap (λ (left : List Token). Ok ([], state, left)) also ∙ r
  same_statements state begun before [] (q ∷ qs) x b e r none = absurd (cc)
  same_statements state begun before (p ∷ ps) [] x b e r none = absurd (cc)
  same_statements state begun before (p ∷ ps) (q ∷ qs) x b e r none =
      let first : p.bytes ≡ q.bytes = cc in
      let rest : words ps ≡ words qs = cc in
      let now = pushed begun before p q b first in
      let same = same_whole (g.ending state.0) (begun ++ p ∷ []) (before ++ q ∷ []) now in
      ⊎_elim
      (λ (whole : is_whole (g.ending state.0) (begun ++ p ∷ []) ≡ true).
      let also : is_whole (g.ending state.0) (before ++ q ∷ []) ≡ true = sym same ∙ whole in
      let h = rw whole at r in
      let later = λ (rec : R) (after : M × List Key) (y : Statements) (reads : read_statements g after [] ps ≡ Ok y) (all : with_one rec y ≡ Ok x). same_statements after [] [] ps qs y refl rest reads (none_over rec x y all none) in
      rw also (one_then with_one state (begun ++ p ∷ []) (before ++ q ∷ []) x (λ after. read_statements g after [] ps) (λ after. read_statements g after [] qs) now later h))
      (λ (more : is_whole (g.ending state.0) (begun ++ p ∷ []) ≡ false).
      let also : is_whole (g.ending state.0) (before ++ q ∷ []) ≡ false = sym same ∙ more in
      let h = rw more at r in
      rw also (same_statements state (begun ++ p ∷ []) (before ++ q ∷ []) ps qs x now rest h none))
      (cases (is_whole (g.ending state.0) (begun ++ p ∷ [])))

  pub same_reading : (state after : M × List Key) (ps qs : List Token) (recs : List R) → words ps ≡ words qs → ReadsAs g state ps recs after → ReadsAs g state qs recs after
  same_reading state after ps qs recs e r = let x : Statements = (recs, after, []) in same_statements state [] [] ps qs x refl e r refl

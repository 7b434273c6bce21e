-- The statements of a text that reads, with what they say.
use Rattle.std.proofs.Common.{◌≡◌, ℕ, true, false, List, [], ◌∷◌, ◌++◌, map, refl, sym, ap, ◌∙◌, subst, inl, inr, append_assoc, Some, Result, Ok, Err}
use Rattle.std.specs.Prelude.{IsOk}
use Rattle.std.specs.List.{All, zip}
use Rattle.std.proofs.lemmas.Bool.{cases_Bool}
use Rattle.std.proofs.lemmas.List.{append-nil, map-append}
use Rattle.std.proofs.lemmas.List.Elements.{All-push}
use Rattle.design_model.specs.declared.fault.Fault.{Fault}
use Rattle.design_model.specs.declared.mode.Mode.{Mode}
use Rattle.design_model.specs.declared.mode.Mode.TheVariants.{Top, In}
use Rattle.design_model.specs.declared.mode.Section.{Section}
use Rattle.design_model.specs.declared.mode.Section.TheVariants.{Components}
use Rattle.form_meanings.specs.Words.{is_empty, start}
use Rattle.statement_model.specs.Tokens.{Token, left_from, tokens}
use Rattle.statement_model.specs.Boundaries.{words, is_whole, statements}
use Rattle.statement_model.specs.Form.{read, spell, whole}
use Rattle.statement_model.specs.Reading.{read_form}
use Rattle.lefdef_tokens.specs.Views.{pieces_of}
use Rattle.lefdef_tokens.specs.declared.token_run.TokenRun.{TokenRun}
use Rattle.statement_reader.specs.Located.{in_front, located_on, located_at}
use Rattle.statement_reader.specs.ReadingLaws.{RecordsAreLocated}
use Rattle.statement_reader.specs.declared.grammar.Read.{Read}
use Rattle.def_grammar.specs.Components.{Component, component_form}
use Rattle.def_grammar.specs.Records.{def, def_ending, Record, entry, entry_of, component, component_of, statement, entries_form, read_def}
use Rattle.def_grammar.specs.Located.{located, component_at, component_if, entry_at, is_entry}
use Rattle.def_reader.specs.Lent.{StatementAt, StatementIn}
use Rattle.def_reader.specs.RecordViews.{located_view}
use Rattle.def_reader.specs.StatementViews.{record_view}
use Rattle.def_reader.specs.declared.statement.Statement.{Statement}
use Rattle.def_reader.proofs.SectionSteps.{form_whole, read_whole, StandsIn, stands}

-- what statements say
abbrev pub records_in : List (List Token × Record) → List Record
records_in = map (λ (x : List Token × Record). x.1)

-- the statements of a text, each with its record
front_zip : (s : List Token) (later : List (List Token)) (r : Result (Record × Mode) Fault) (rest : Mode → List (List Token × Record)) → ((m : Mode) → zip later (map (λ x. x.1) (rest m)) ≡ rest m)
    → zip (s ∷ later) (map (λ x. x.1) (in_front def s r rest)) ≡ in_front def s r rest
front_zip s later (Ok x) rest same = ap (λ (z : List (List Token × Record)). (s, x.0) ∷ z) (same x.1)
front_zip s later (Err f) rest same = refl

zip_located : (ps before : List Token) (m : Mode) → zip (statements def_ending before ps).0 (map (λ x. x.1) (located_on def m before ps)) ≡ located_on def m before ps
unfolding statements located_on
zip_located [] before m = refl
zip_located (p ∷ ps) before m = elim (cases_Bool (is_whole def_ending (before ++ p ∷ []))) [
  | inl is ↦ rw is (front_zip (before ++ p ∷ []) (statements def_ending [] ps).0 (read_form def m (before ++ p ∷ [])) (λ after. located_on def after [] ps) (zip_located ps []))
  | inr more ↦ rw more (zip_located ps (before ++ p ∷ []) m)
]

module _ (law : RecordsAreLocated def) (text : List ℕ) where
  pub located_is : (recs : List Record) → read_def text ≡ Ok recs → located text recs ≡ located_at def Top text 0
  located_is recs h = ap (located text) (sym (law Top text recs h)) ∙ zip_located (tokens text).pieces [] Top

  ok_records : (r : Result (List Record) Fault) → IsOk r → (recs : List Record) × (r ≡ Ok recs)
  ok_records (Ok recs) h = (recs, refl)
  ok_records (Err f) h = absurd (cc)

  -- all statements of a text that reads
  module _ (items : List Statement) (reads : IsOk (read_def text)) (later : List (List Token × Record)) (front : records_in (located_at def Top text 0) ≡ map record_view items ++ records_in later) (none : later ≡ []) where
    all : records_in (located_at def Top text 0) ≡ map record_view items
    all = front ∙ ap (λ (z : List (List Token × Record)). map record_view items ++ records_in z) none ∙ append-nil (map record_view items)

    pub records_are : read_def text ≡ Ok (map record_view items)
    records_are =
        let r = ok_records (read_def text) reads in
        let same : map record_view items ≡ r.0 = sym all ∙ law Top text r.0 r.1 in
        r.1 ∙ ap (λ (z : List Record). Ok z) (sym same)

-- one more statement
pub one_more : (front : List Record) (now : List (List Token × Record)) (items new : List Statement) (x : Read Statement Mode) (m : Mode) (old text : List ℕ) (pos : ℕ) → new ≡ items ++ x.statement ∷ [] → text ≡ old
    → front ≡ map record_view items ++ records_in now → now ≡ located_view x ∷ located_at def m old pos → front ≡ map record_view new ++ records_in (located_at def m text pos)
one_more front now items new x m old text pos e same is first =
    let later = records_in (located_at def m old pos) in
    let one : List Record = record_view x.statement ∷ [] in
    rw (e, same) (
    is ∙ ap (λ (z : List (List Token × Record)). map record_view items ++ records_in z) first ∙ sym (append_assoc (map record_view items) one later)
    ∙ ap (λ (z : List Record). z ++ later) (sym (map-append record_view items (x.statement ∷ [])))
    )

pub one_more_lent : (items new : List Statement) (x : Statement) (run : TokenRun) (old text : List ℕ) → new ≡ items ++ x ∷ [] → old ≡ text → All (StatementIn text) items → run.text.now ≡ old → StatementAt (pieces_of run) x → All (StatementIn text) new
one_more_lent items new x run old text e same lent there last = rw e (All-push (StatementIn text) items x lent (run, there ∙ same, last))

-- the form of a statement that comes first
front_form : (m : Mode) (s : List Token) (r : Result (Record × Mode) Fault) (rest : Mode → List (List Token × Record)) (x : List Token × Record) (later : List (List Token × Record)) → read_form def m s ≡ r → in_front def s r rest ≡ x ∷ later
    → (y : Record × Mode) × (read_form def m x.0 ≡ Ok y) × (y.0 ≡ x.1)
front_form m s (Ok y) rest x later form h =
    let z : List Token × Record = (s, y.0) in
    let same : z ≡ x = cc in
    (y, subst (λ (w : List Token × Record). read_form def m w.0 ≡ Ok y) same form, ap (λ (w : List Token × Record). w.1) same)
front_form m s (Err f) rest x later form h = absurd (cc)

located_form : (ps before : List Token) (m : Mode) (x : List Token × Record) (later : List (List Token × Record)) → located_on def m before ps ≡ x ∷ later → (y : Record × Mode) × (read_form def m x.0 ≡ Ok y) × (y.0 ≡ x.1)
unfolding located_on
located_form [] before m x later h = absurd (cc)
located_form (p ∷ ps) before m x later h = elim (cases_Bool (is_whole def_ending (before ++ p ∷ []))) [
  | inl is ↦ front_form m (before ++ p ∷ []) (read_form def m (before ++ p ∷ [])) (λ after. located_on def after [] ps) x later refl (rw is at h)
  | inr more ↦ located_form ps (before ++ p ∷ []) m x later (rw more at h)
]

no_words : (ws : List (List ℕ)) → is_empty ws ≡ true → ws ≡ []
no_words [] h = refl
no_words (w ∷ ws) h = absurd (cc)

-- the entry of a component has its words
entry_spelled : (m : Mode) (c : Component) → m ≡ In Components → spell (statement m) (entry (component c)) ≡ spell component_form c
unfolding statement entries_form
entry_spelled m c is = rw is refl

form_spelled : (m : Mode) (s : List Token) (y : Record × Mode) (c : Component) → read_form def m s ≡ Ok y → y.0 ≡ entry (component c) → words s ≡ spell component_form c
form_spelled m s y c form is =
    let w = form_whole m s (whole (statement m) (words s)) y form in
    let r = read_whole (read (statement m) (start (words s))) (y.0, w.0) w.1 in
    let here = subst (StandsIn m) is (stands m y.0 (start (words s)) r.0 r.1) in
    ((statement m).exact.shows (start (words s)) (y.0, r.0) r.1).words
    ∙ ap (λ (z : List (List ℕ)). spell (statement m) y.0 ++ z) (no_words r.0.words r.2)
    ∙ append-nil (spell (statement m) y.0)
    ∙ ap (spell (statement m)) is
    ∙ entry_spelled m c here

pub located_spelled : (m : Mode) (text : List ℕ) (pos : ℕ) (s : List Token) (rec : Record) (later : List (List Token × Record)) (c : Component) → located_at def m text pos ≡ (s, rec) ∷ later → rec ≡ entry (component c) → words s ≡ spell component_form c
located_spelled m text pos s rec later c h is =
    let y = located_form (left_from text pos).pieces [] m (s, rec) later h in
    form_spelled m s y.0 c y.1 (y.2 ∙ is)

-- the entry of a component is looked up from statement to statement
module _ (name : List ℕ) (m : Mode) (text : List ℕ) (pos : ℕ) (s : List Token) (rec : Record) (after : Mode) (end : ℕ) (front : List (List Token × Record))
    (same : component_at name front ≡ component_at name (located_at def m text pos))
    (first : located_at def m text pos ≡ (s, rec) ∷ located_at def after text end) where
  pub named_here : (found : List Token × Component) → Some found ≡ component_if name s (component_of rec) → Some found ≡ component_at name front
  named_here found is = sym (same ∙ ap (component_at name) first ∙ rw (← is) refl)

-- so is an entry of a section
module _ (s : Section) (name : List ℕ) (front later : List (List Token × Record)) (ps : List Token) (rec : Record) (first : front ≡ (ps, rec) ∷ later) where
  pub entry_here : is_entry s name (entry_of rec) ≡ true → entry_at s name front ≡ Some (ps, rec)
  entry_here is = rw first (rw is refl)

  pub entry_later : is_entry s name (entry_of rec) ≡ false → entry_at s name front ≡ entry_at s name later
  entry_later other = rw first (rw other refl)

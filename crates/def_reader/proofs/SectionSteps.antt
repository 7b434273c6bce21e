-- Where an entry stands: in its section, whose header is the latest statement that its text has once.
use Rattle.std.proofs.Common.{◌≡◌, ◌⊎◌, ℕ, true, List, refl, sym, ap, ◌∙◌, subst, inl, inr, codes, Option, Some, None, Ok}
use Rattle.std.specs.Option.{option_to_list}
use Rattle.design_model.specs.declared.mode.Mode.{Mode}
use Rattle.design_model.specs.declared.mode.Mode.TheVariants.{Top, In, Props, After}
use Rattle.design_model.specs.declared.mode.Section.{Section}
use Rattle.design_model.specs.EnumWords.{section_word}
use Rattle.form_meanings.specs.Words.{◌>>=◌, Rest, is_done, is_word, next_passes, start, ends}
use Rattle.form_meanings.proofs.Steps.{some_same, both_read, if_cases}
use Rattle.statement_model.specs.Tokens.{Token}
use Rattle.statement_model.specs.Boundaries.{words}
use Rattle.statement_model.specs.Form.{read, whole}
use Rattle.statement_model.specs.Reading.{read_form, formed, checked}
use Rattle.def_grammar.specs.Properties.{PropertyRecord, end_properties, property, property_statement}
use Rattle.def_grammar.specs.Top.{header, plain, once, top_statement, PlainRecord, TopRecord}
use Rattle.def_grammar.specs.Records.{def, Record, top, in_properties, end_section, entry, Entry, statement, in_section, end_form, entries_form, section_of, name_of, entry_key, key_of, mode_after}
use Rattle.def_grammar.proofs.EntrySections.{section_read}
use Rattle.def_reader.specs.SeenViews.{latest_with, Belongs}

-- the word of the section that is open
abbrev pub Opens : Mode → Option (List ℕ) → Type 0
Opens m latest = (s : Section) → m ≡ In s → latest ≡ Some (section_word s)

abbrev InRecord : Type 0
InRecord = PropertyRecord ⊎ (Section ⊎ Entry)

-- where a record stands
abbrev pub StandsIn : Mode → Record → Type 0
StandsIn m (top t) = m ≡ Top
StandsIn m (in_properties p) = m ≡ Props
StandsIn m (end_section s) = Unit {0}
StandsIn m (entry e) = m ≡ In (section_of e)

-- the record of a form that was read
form_checked : (m : Mode) (ps : List Token) (r : Record) (bad : Option ℕ) (x : Record × Mode) → checked def m ps r bad ≡ Ok x → (r, mode_after m r) ≡ x
form_checked m ps r None x h = let y : Record × Mode = (r, mode_after m r) in let same : y ≡ x = cc in same
form_checked m ps r (Some n) x h = absurd (cc)

pub form_whole : (m : Mode) (ps : List Token) (w : Option (Record × Option ℕ)) (x : Record × Mode) → formed def m ps w ≡ Ok x → (bad : Option ℕ) × (w ≡ Some (x.0, bad)) × (x.1 ≡ mode_after m x.0)
form_whole m ps None x h = absurd (cc)
form_whole m ps (Some w) x h =
    let same = form_checked m ps w.0 w.1 x h in
    (w.1, ap (λ (y : Record × Mode). let z : Record × Option ℕ = (y.0, w.1) in Some z) same, sym (ap (λ (y : Record × Mode). y.1) same) ∙ ap (λ (y : Record × Mode). mode_after m y.0) same)

-- a form that all of some tokens have reads them
done_read : {A : Type 0} (p : A × Rest) (x : A × Option ℕ) → ends p.0 p.1 ≡ Some x → (p.0 ≡ x.0) × (is_done p.1 ≡ true)
done_read {A = A} p x h =
    if_cases (is_done p.1) (Some (p.0, p.1.bad)) None x ((p.0 ≡ x.0) × (is_done p.1 ≡ true))
    (λ is e. let y : A × Option ℕ = (p.0, p.1.bad) in (ap (λ (z : A × Option ℕ). z.0) (some_same y x e), is))
    (λ others e. absurd (cc))
    h

pub read_whole : {A : Type 0} (r : Option (A × Rest)) (x : A × Option ℕ) → (r >>= λ a. ends a.0 a.1) ≡ Some x → (rest : Rest) × (r ≡ Some (x.0, rest)) × (is_done rest ≡ true)
read_whole {A = A} r x h =
    let p = both_read r (λ (a : A × Rest). ends a.0 a.1) x h in
    let done = done_read p.0 x p.2 in
    (p.0.1, p.1 ∙ ap (λ (a : A). let z : A × Rest = (a, p.0.1) in Some z) done.0, done.1)

entry_in : (s : Section) (b : Section ⊎ Entry) (r rest : Rest) (o : Option (Entry × Rest)) → read (entries_form s) r ≡ o → (o >>= λ e. (let z : (Section ⊎ Entry) × Rest = (inr e.0, e.1) in Some z)) ≡ Some (b, rest) → StandsIn (In s) (inr (inr b))
entry_in s b r rest None o h = absurd (cc)
entry_in s b r rest (Some e) o h =
    let y : (Section ⊎ Entry) × Rest = (inr e.0, e.1) in
    let same = some_same y (b, rest) h in
    subst (λ (z : (Section ⊎ Entry) × Rest). StandsIn (In s) (inr (inr z.0))) same (ap In (sym (section_read s e.0 r e.1 o)))

ended_in : (s : Section) (b : Section ⊎ Entry) (rest : Rest) (o : Option (Section × Rest)) → (o >>= λ a. (let z : (Section ⊎ Entry) × Rest = (inl a.0, a.1) in Some z)) ≡ Some (b, rest) → StandsIn (In s) (inr (inr b))
ended_in s b rest None h = absurd (cc)
ended_in s b rest (Some a) h =
    let y : (Section ⊎ Entry) × Rest = (inl a.0, a.1) in
    subst (λ (z : (Section ⊎ Entry) × Rest). StandsIn (In s) (inr (inr z.0))) (some_same y (b, rest) h) tt

section_stands : (s : Section) (b : Section ⊎ Entry) (r rest : Rest) → read (in_section s) r ≡ Some (b, rest) → StandsIn (In s) (inr (inr b))
section_stands s b r rest h =
    if_cases (next_passes (is_word (codes "END")) r)
    (read (end_form s) r >>= λ a. (let z : (Section ⊎ Entry) × Rest = (inl a.0, a.1) in Some z))
    (read (entries_form s) r >>= λ e. (let z : (Section ⊎ Entry) × Rest = (inr e.0, e.1) in Some z))
    (b, rest) (StandsIn (In s) (inr (inr b)))
    (λ is e. ended_in s b rest (read (end_form s) r) e)
    (λ others e. entry_in s b r rest (read (entries_form s) r) refl e)
    h

pub stands : (m : Mode) (rec : Record) (r rest : Rest) → read (statement m) r ≡ Some (rec, rest) → StandsIn m rec
unfolding statement
stands Top rec r rest h =
    let p = both_read (read top_statement r) (λ (a : TopRecord × Rest). (let z : Record × Rest = (inl a.0, a.1) in Some z)) (rec, rest) h in
    let y : Record × Rest = (inl p.0.0, p.0.1) in
    subst (λ (z : Record × Rest). StandsIn Top z.0) (some_same y (rec, rest) p.2) refl
stands (In s) rec r rest h =
    let o = read (in_section s) r in
    let p = both_read (o >>= λ b. (let z : InRecord × Rest = (inr b.0, b.1) in Some z)) (λ (b : InRecord × Rest). (let z : Record × Rest = (inr b.0, b.1) in Some z)) (rec, rest) h in
    let q = both_read o (λ (b : (Section ⊎ Entry) × Rest). (let z : InRecord × Rest = (inr b.0, b.1) in Some z)) p.0 p.1 in
    let x : InRecord × Rest = (inr q.0.0, q.0.1) in
    let y : Record × Rest = (inr p.0.0, p.0.1) in
    subst (λ (z : Record × Rest). StandsIn (In s) z.0) (some_same y (rec, rest) p.2) (subst (λ (z : InRecord × Rest). StandsIn (In s) (inr z.0)) (some_same x p.0 q.2) (section_stands s q.0.0 r q.0.1 q.1))
stands Props rec r rest h =
    let o = read property_statement r in
    let p = both_read (o >>= λ b. (let z : InRecord × Rest = (inl b.0, b.1) in Some z)) (λ (b : InRecord × Rest). (let z : Record × Rest = (inr b.0, b.1) in Some z)) (rec, rest) h in
    let q = both_read o (λ (b : PropertyRecord × Rest). (let z : InRecord × Rest = (inl b.0, b.1) in Some z)) p.0 p.1 in
    let x : InRecord × Rest = (inl q.0.0, q.0.1) in
    let y : Record × Rest = (inr p.0.0, p.0.1) in
    subst (λ (z : Record × Rest). StandsIn Props z.0) (some_same y (rec, rest) p.2) (subst (λ (z : InRecord × Rest). StandsIn Props (inr z.0)) (some_same x p.0 q.2) refl)
stands After rec r rest h = absurd (cc)

-- a key at the top, and the key of an entry
not_in : (m : Mode) (s : Section) → m ≡ Top → m ≡ In s → ⊥
not_in m s at here = cc

not_among : (m : Mode) (s : Section) → m ≡ Props → m ≡ In s → ⊥
not_among m s at here = cc

once_belongs : (once : Option (List ℕ)) (latest : Option (List ℕ)) → Belongs latest (option_to_list once)
once_belongs None latest = tt
once_belongs (Some w) latest = tt

-- a statement that opens no section leaves the mode, begins property definitions, or ends the design
stays_out : (m : Mode) (p : PlainRecord) (latest : Option (List ℕ)) → m ≡ Top → Opens (mode_after m (top (plain p))) latest
stays_out m (inr (inl tt)) latest at = λ s is. absurd (cc)
stays_out m (inr (inr (inl tt))) latest at = λ s is. absurd (cc)
stays_out m _ latest at = λ s is. absurd (not_in m s at is)

-- nor does one among property definitions
stays_among : (m : Mode) (p : PropertyRecord) (latest : Option (List ℕ)) → m ≡ Props → Opens (mode_after m (in_properties p)) latest
stays_among m end_properties latest at = λ s is. absurd (cc)
stays_among m (property tokens) latest at = λ s is. absurd (not_among m s at is)

entry_belongs : (s : Section) (n : Option (List ℕ)) (latest : Option (List ℕ)) → latest ≡ Some (section_word s) → Belongs latest (entry_key s n)
entry_belongs s (Some name) latest is = is
entry_belongs s None latest is = tt

entry_after : (s : Section) (n : Option (List ℕ)) (latest : Option (List ℕ)) → latest_with (entry_key s n) latest ≡ latest
entry_after s (Some name) latest = refl
entry_after s None latest = refl

opens_after : (m : Mode) (rec : Record) (latest : Option (List ℕ)) → StandsIn m rec → Opens m latest → Belongs latest (key_of rec) × Opens (mode_after m rec) (latest_with (key_of rec) latest)
opens_after m (top (header s n)) latest at opens = (tt, λ t is. (let same : s ≡ t = cc in ap (λ (z : Section). Some (section_word z)) same))
opens_after m (top (plain p)) latest at opens = (once_belongs (once (plain p)) latest, stays_out m p (latest_with (option_to_list (once (plain p))) latest) at)
opens_after m (in_properties p) latest at opens = (tt, stays_among m p latest at)
opens_after m (end_section s) latest at opens = (tt, λ t is. absurd (cc))
opens_after m (entry e) latest at opens =
    (entry_belongs (section_of e) (name_of e) latest (opens (section_of e) at), λ s is. entry_after (section_of e) (name_of e) latest ∙ opens s is)

-- a statement that was read stands in its place, and its key leaves the section open that the next one stands in
pub opened : (m after : Mode) (ps : List Token) (rec : Record) (latest : Option (List ℕ)) → read_form def m ps ≡ Ok (rec, after) → Opens m latest
    → Belongs latest (key_of rec) × Opens after (latest_with (key_of rec) latest)
opened m after ps rec latest h opens =
    let form = form_whole m ps (whole (statement m) (words ps)) (rec, after) h in
    let r = read_whole (read (statement m) (start (words ps))) (rec, form.0) form.1 in
    let next = opens_after m rec latest (stands m rec (start (words ps)) r.0 r.1) opens in
    (next.0, rw form.2 next.1)

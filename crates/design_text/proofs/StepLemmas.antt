-- Changes of the text of a design.
use Rattle.std.proofs.Common.{◌≡◌, ◌⊎◌, ℕ, true, false, List, [], ◌∷◌, length, map, Option, None, Result, Ok, Err, IfOk, IsOk, OnErr, refl, sym, ap, ap₂, subst, ◌∙◌, ⊎_elim}
use Rattle.std.specs.List.{zip}
use Rattle.std.proofs.lemmas.Bool.{cases_Bool as cases}
use Rattle.std.proofs.lemmas.List.{length-map}
use Rattle.std.proofs.lemmas.Slice.Zip.{seconds-zip}
use Rattle.design_model.specs.declared.fault.Fault as fault
use Rattle.design_model.specs.declared.identifier.StmtId.{StmtId}
use Rattle.design_model.specs.declared.mode.Mode.TheVariants.{Top}
use Rattle.statement_model.specs.Cuts.{Cut, with_cuts}
use Rattle.statement_model.specs.Reading.{read_text}
use Rattle.statement_model.specs.Tokens.{tokens}
use Rattle.statement_reader.specs.ReadingLaws.{RecordsAreLocated}
use Rattle.def_grammar.specs.Records.{Record, def, read_def}
use Rattle.edit_rules.specs.Plans.{is_long}
use Rattle.edit_laws.proofs.PlanTexts.{tokens_read}
use Rattle.piece_laws.specs.KeyLaws.{FreshIsOnce, KeysAreApart, KeysDecide}
use Rattle.splicing_laws.specs.KeepingLaws.{AreInOrder}
use Rattle.text_pieces.specs.Covering as covering
use Rattle.text_pieces.specs.Changes.{Prepared}
use Rattle.text_pieces.specs.Content as pieces
use Rattle.text_pieces.specs.Content.{read_keyless}
use Rattle.text_pieces.specs.Lent.{numbered_records}
use Rattle.text_pieces.specs.Lasting.{Leads}
use Rattle.text_pieces.specs.Preparing.{StandsStill}
use Rattle.text_pieces.specs.Statements.{statements_of}
use Rattle.text_pieces.specs.Tables.{ids_of}
use Rattle.design_tables.specs.Listings.{AreTablesOf, Listing}
use Rattle.text_pieces.specs.declared.prepared.PrepareError.{PrepareError}
use Rattle.text_pieces.specs.declared.prepared.PrepareError.TheVariants.{Fault, Memory, Range, TooLong}
use Rattle.design_tables.specs.Prepared as tables
use Rattle.design_tables.specs.Prepared.{AreKeyed}
use Rattle.design_text.specs.DesignTexts.{Content, IsDesignText, IsNumbered, numbers_of}
use Rattle.design_text.specs.Exchanges.{LeadsToRecords}
use Rattle.design_text.specs.Steps.{Both, LeadsTo, PreparesCuts}
use Rattle.design_text.proofs.KeyedTexts.{keyed_reads, reads_keyed}
use Rattle.design_text.proofs.Opened.{opened}
use Rattle.design_text.proofs.ReadTexts.{is_read}

-- what doesn't read has a fault
pub faulty : (r : Result (List Record) fault.Fault) → ((design : List Record) → r ≡ Ok design → ⊥) → (f : fault.Fault) × (r ≡ Err f)
faulty (Ok design) none = absurd (none design refl)
faulty (Err f) none = (f, refl)

-- a text with a fault that is none of its keys doesn't read
pub not_read : KeysAreApart def → (text : List ℕ) (f : fault.Fault) → read_keyless text ≡ Err f → (design : List Record) → read_def text ≡ Ok design → ⊥
unfolding read_text
not_read apart text f keyless design reads = ⊎_elim
    (λ (long : is_long text ≡ true). let e = rw long at reads in absurd (cc))
    (λ (short : is_long text ≡ false).
    let a = (apart Top [] (tokens text) design (tokens_read text design reads)).0 in
    let b = rw short at keyless in
    let c = sym a ∙ b in
    absurd (cc))
    (cases (is_long text))

pub still_records : (old new : pieces.Content) → StandsStill old new → numbered_records new ≡ numbered_records old
still_records old new s = ap₂ (λ (ids : List StmtId) (t : List ℕ). zip ids (map (λ x. x.1) (statements_of t))) (ap (λ cs. ids_of (record { chunks = cs; slots = old.table.slots })) s.chunks) s.text

-- the tables of a text that is known
pub known_records : (c : Content) (design : List Record) → IsNumbered c design → numbered_records c.pieces ≡ zip (numbers_of c) design
known_records c design k = ap (λ (rs : List Record). zip (numbers_of c) rs) k.said

pub tables_known : (c : Content) (design : List Record) → IsNumbered c design → AreTablesOf (numbered_records c.pieces) c.names
tables_known c design k = subst (λ xs. AreTablesOf xs c.names) (sym (known_records c design k)) k.tables

module _ (law : RecordsAreLocated def) where
  -- where all stands still, the text is that of a design with the tables of its statements
  pub stays : (old new : pieces.Content) (names : List (List ℕ × Listing)) → StandsStill old new → IsOk (read_def (pieces.text_of old)) → AreTablesOf (numbered_records old) names
      → IsDesignText (record { pieces = new; names = names })
  stays old new names s reads are =
      opened law new names (pieces.text_of old) s.text reads (subst (λ xs. AreTablesOf xs names) (sym (still_records old new s)) are)

  pub made_text : (new : pieces.Content) (names : List (List ℕ × Listing)) → IsOk (read_def (pieces.text_of new)) → AreTablesOf (numbered_records new) names → IsDesignText (record { pieces = new; names = names })
  made_text new names reads are = opened law new names (pieces.text_of new) refl reads are

-- a change that leads somewhere still does where all stands as it did
pub leads_still : (old new : Content) (change : Both) (text : List ℕ) → StandsStill old.pieces new.pieces
    → ((c now d : pieces.Content) (p : Prepared) → Leads c p d → StandsStill c now → Leads now p d)
    → ((base other : List (StmtId × Record)) → tables.IsBetween old.names change.names base other → tables.IsBetween new.names change.names base other)
    → LeadsTo old change text → LeadsTo new change text
leads_still old new change text s lasts names l = record {
  other = l.other;
  leads = lasts old.pieces new.pieces l.other change.text l.leads s;
  names = subst (λ xs. tables.IsBetween new.names change.names xs (numbered_records l.other)) (sym (still_records old.pieces new.pieces s)) (names (numbered_records old.pieces) (numbered_records l.other) l.names);
  text = l.text;
  reads = l.reads;
}

-- and to the statements to which it does
pub records_still : (old new : Content) (change : Both) (records : List (StmtId × Record)) → StandsStill old.pieces new.pieces
    → ((c now d : pieces.Content) (p : Prepared) → Leads c p d → StandsStill c now → Leads now p d) → LeadsToRecords old change records → LeadsToRecords new change records
records_still old new change records s lasts l = record { other = l.other; leads = lasts old.pieces new.pieces l.other change.text l.leads s; says = l.says }

-- what holds whatever the answer is
pub always_ok : {X E : Type 0} (P : Type 0) (r : Result (Option X) E) → P → IfOk r (λ x. x ≡ None → P)
always_ok P (Ok x) p = λ is. p
always_ok P (Err e) p = tt

pub always_err : {X E : Type 0} (P : Type 0) (r : Result X E) → P → OnErr r P
always_err P (Ok x) p = tt
always_err P (Err e) p = p

-- the two ways in which it is said that cuts stand in order
pub in_order : (at : ℕ) (cuts : List Cut) (n : ℕ) → AreInOrder at cuts n → covering.AreInOrder at cuts n
in_order at [] n h = h
in_order at (c ∷ cs) n h = (h.0, h.1, in_order c.hi cs n h.2)

pub in_order_too : (at : ℕ) (cuts : List Cut) (n : ℕ) → covering.AreInOrder at cuts n → AreInOrder at cuts n
in_order_too at [] n h = h
in_order_too at (c ∷ cs) n h = (h.0, h.1, in_order_too c.hi cs n h.2)

-- what isn't prepared of the pieces
pub not_prepared : KeysAreApart def → (old new : pieces.Content) (cuts : List Cut) (e : PrepareError) (now : Content) → covering.PreparesAll old new cuts (Err e) → PreparesCuts (pieces.text_of old) cuts (Err e) now
not_prepared apart old new cuts Range now h = λ order. h (in_order 0 cuts (length (pieces.text_of old)) order)
not_prepared apart old new cuts TooLong now h = (in_order_too 0 cuts (length (pieces.text_of old)) h.0, h.1)
not_prepared apart old new cuts Fault now h = faulty (read_def (with_cuts cuts (pieces.text_of old))) (not_read apart (with_cuts cuts (pieces.text_of old)) h.0 h.1)
not_prepared apart old new cuts Memory now h = tt

-- and of the tables
pub not_keyed : KeysAreApart def → FreshIsOnce → (old : List ℕ) (cuts : List Cut) (e : PrepareError) (now : Content) (other : pieces.Content) → pieces.text_of other ≡ with_cuts cuts old
    → read_keyless (pieces.text_of other) ≡ Ok (map (λ x. x.1) (numbered_records other)) → ((e ≡ Fault) × (AreKeyed (numbered_records other) → ⊥)) ⊎ (e ≡ Memory) → PreparesCuts old cuts (Err e) now
not_keyed apart once old cuts e now other text keyless h = ⊎_elim
    (λ (f : (e ≡ Fault) × (AreKeyed (numbered_records other) → ⊥)).
    rw f.0
    (faulty (read_def (with_cuts cuts old)) (λ design reads. f.1 (reads_keyed (pieces.text_of other) (numbered_records other) keyless apart once design (ap read_def text ∙ reads)))))
    (λ (m : e ≡ Memory). rw m tt)
    h

module _ (law : RecordsAreLocated def) (old : pieces.Content) (names : List (List ℕ × Listing)) (inv : IsDesignText (record { pieces = old; names = names })) where
  pub own_tables : AreTablesOf (numbered_records old) names
  own_tables = subst (λ (rs : List Record). AreTablesOf (zip (ids_of old.table) rs) names) (sym (law Top (pieces.text_of old) inv.design inv.reads)) inv.tables

  module _ (keyless : read_keyless (pieces.text_of old) ≡ Ok (map (λ x. x.1) (statements_of (pieces.text_of old)))) (many : length (ids_of old.table) ≡ length (statements_of (pieces.text_of old))) where
    pub own_keys : KeysAreApart def → FreshIsOnce → AreKeyed (numbered_records old)
    own_keys apart once =
        let stmts = statements_of (pieces.text_of old) in
        let all : map (λ x. x.1) (numbered_records old) ≡ map (λ x. x.1) stmts = seconds-zip (ids_of old.table) (map (λ x. x.1) stmts) (length-map stmts (λ x. x.1) ∙ sym many) in
        reads_keyed (pieces.text_of old) (numbered_records old) (keyless ∙ ap (λ (l : List Record). Ok l) (sym all)) apart once inv.design inv.reads

-- what is prepared of both leads on
pub leads_on : KeysDecide def → FreshIsOnce → (now : Content) (change : Both) (other : pieces.Content) (new : List ℕ) → Leads now.pieces change.text other
    → tables.IsBetween now.names change.names (numbered_records now.pieces) (numbered_records other) → pieces.text_of other ≡ new
    → read_keyless (pieces.text_of other) ≡ Ok (map (λ x. x.1) (numbered_records other)) → AreKeyed (numbered_records other) → LeadsTo now change new
leads_on decide once now change other new leads names text keyless keyed = record {
  other = other;
  leads = leads;
  names = names;
  text = text;
  reads = subst (λ t. IsOk (read_def t)) text (is_read (read_def (pieces.text_of other)) _ (keyed_reads (pieces.text_of other) (numbered_records other) keyless decide once keyed));
}

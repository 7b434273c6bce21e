use Rattle.std.proofs.Common.{ℕ, List, Err, IsOk, map, sym, ap, subst}
use Rattle.std.proofs.lemmas.Result.{err_from_is_err_and}
use Rattle.def_grammar.specs.Records.{read_def}
use Rattle.text_pieces.specs.Content as pieces
use Rattle.design_tables.specs.Listings.{AreTablesOf}
use Rattle.design_tables.specs.Prepared.{AreKeyed}
use Rattle.text_pieces.specs.Covering.{cut_of}
use Rattle.design_text.specs.DesignTexts.{text_of}
use Rattle.design_text.specs.Steps.{PreparesCuts}
use Rattle.design_text.proofs.ReadTexts.{is_read}
use Rattle.design_text.proofs.StepLemmas.{leads_on, leads_still, made_text, not_keyed, not_prepared, own_keys, own_tables, records_still, still_records}
use Rattle.design_text.proofs.text.DesignText.prepare.Goals as goal

pub prepare_tables-requires-clause-tables : goal.prepare_tables-requires-clause-tables
prepare_tables-requires-clause-tables g c =
    subst (λ xs. AreTablesOf xs c.self.inside.tables) (sym (still_records c.self.inside.pieces c.prepare_all.new.self c.prepare_all.ensures.still))
    (own_tables c.records_are_read.ensures.located c.self.inside.pieces c.self.inside.tables c.self.invariant)

pub prepare_tables-requires-clause-keyed : goal.prepare_tables-requires-clause-keyed
prepare_tables-requires-clause-keyed g c =
    let s = c.statements_are_numbered.ensures in
    subst AreKeyed (sym (still_records c.self.inside.pieces c.prepare_all.new.self c.prepare_all.ensures.still))
    (own_keys c.records_are_read.ensures.located c.self.inside.pieces c.self.inside.tables c.self.invariant s.reads s.all c.keys_are_apart.ensures c.fresh_is_once.ensures)

pub invariant_of-self-in-Err : goal.invariant_of-self-in-Err
invariant_of-self-in-Err g c =
    made_text c.records_are_read.ensures.located c.prepare_all.new.self c.prepare_tables.new.tables
    (subst (λ t. IsOk (read_def t)) (sym c.prepare_all.ensures.still.text) (is_read (read_def (pieces.text_of c.self.inside.pieces)) c.self.invariant.design c.self.invariant.reads)) c.prepare_tables.ensures.same

pub invariant_of-self-in-Ok : goal.invariant_of-self-in-Ok
invariant_of-self-in-Ok g c =
    made_text c.records_are_read.ensures.located c.prepare_all.new.self c.prepare_tables.new.tables
    (subst (λ t. IsOk (read_def t)) (sym c.prepare_all.ensures.still.text) (is_read (read_def (pieces.text_of c.self.inside.pieces)) c.self.invariant.design c.self.invariant.reads)) c.prepare_tables.ensures.same

pub returns-in_err-text-clause-prepares : goal.returns-in_err-text-clause-prepares
returns-in_err-text-clause-prepares g c =
    let p = err_from_is_err_and c.from_residual.result c.from_residual.ensures.1 in
    subst (λ (t : List ℕ). PreparesCuts t (map cut_of c.args.cuts.now) c.from_residual.result (record { pieces = c.prepare_all.new.self; names = c.self.inside.tables })) (ap text_of c.self.view_is)
    (rw (p.1, p.2) (not_prepared c.keys_are_apart.ensures c.self.inside.pieces c.prepare_all.new.self (map cut_of c.args.cuts.now) _ _ c.in_err-text.ensures.prepares))

pub returns-in_err-text-clause-lasts : goal.returns-in_err-text-clause-lasts
returns-in_err-text-clause-lasts g c = λ change text l.
    leads_still _ _ change text c.prepare_all.ensures.still c.changes_last.ensures.lasts (λ base other b. b) (rw (← c.self.view_is) at l)

pub returns-in-Err-clause-prepares : goal.returns-in-Err-clause-prepares
returns-in-Err-clause-prepares g c =
    let is = c.in_ok-text.ensures.prepares in
    let now = c.prepare_all.new.self in
    let parted = c.statements_are_parted.ensures now is.other is.between in
    subst (λ (t : List ℕ). PreparesCuts t (map cut_of c.args.cuts.now) (Err c.in-Err.error) (record { pieces = c.prepare_all.new.self; names = c.prepare_tables.new.tables })) (ap text_of c.self.view_is)
    (not_keyed c.keys_are_apart.ensures c.fresh_is_once.ensures (pieces.text_of c.self.inside.pieces) (map cut_of c.args.cuts.now) _ _ is.other is.text parted.reads (c.in-Err.ensures.fails now is.other is.between))

pub returns-in-Err-clause-lasts : goal.returns-in-Err-clause-lasts
returns-in-Err-clause-lasts g c = λ change text l.
    leads_still _ _ change text c.prepare_all.ensures.still c.changes_last.ensures.lasts (c.prepare_tables.ensures.lasts change.names) (rw (← c.self.view_is) at l)

pub returns-in-Ok-clause-prepares : goal.returns-in-Ok-clause-prepares
returns-in-Ok-clause-prepares g c =
    let is = c.in_ok-text.ensures.prepares in
    let now = c.prepare_all.new.self in
    let parted = c.statements_are_parted.ensures now is.other is.between in
    let t = c.in-Ok.ensures in
    rw (← c.self.view_is)
    (leads_on c.keys_decide.ensures c.fresh_is_once.ensures _ _ is.other _ (c.changes_last.ensures.leads now now is.other _ is.between) (t.between now is.other is.between) is.text parted.reads (t.keyed now is.other is.between))

pub returns-in-Ok-clause-lasts : goal.returns-in-Ok-clause-lasts
returns-in-Ok-clause-lasts g c = λ change text l.
    leads_still _ _ change text c.prepare_all.ensures.still c.changes_last.ensures.lasts (c.prepare_tables.ensures.lasts change.names) (rw (← c.self.view_is) at l)

pub returns-in_err-text-clause-lasts_too : goal.returns-in_err-text-clause-lasts_too
returns-in_err-text-clause-lasts_too g c = λ change records l. records_still _ _ change records c.prepare_all.ensures.still c.changes_last.ensures.lasts (rw (← c.self.view_is) at l)

pub returns-in-Err-clause-lasts_too : goal.returns-in-Err-clause-lasts_too
returns-in-Err-clause-lasts_too g c = λ change records l. records_still _ _ change records c.prepare_all.ensures.still c.changes_last.ensures.lasts (rw (← c.self.view_is) at l)

pub returns-in-Ok-clause-lasts_too : goal.returns-in-Ok-clause-lasts_too
returns-in-Ok-clause-lasts_too g c = λ change records l. records_still _ _ change records c.prepare_all.ensures.still c.changes_last.ensures.lasts (rw (← c.self.view_is) at l)

pub returns-in-Ok-clause-kept : goal.returns-in-Ok-clause-kept
returns-in-Ok-clause-kept g c = rw (← c.self.view_is) c.prepare_all.ensures.still.kept

pub returns-in-Err-clause-kept : goal.returns-in-Err-clause-kept
returns-in-Err-clause-kept g c = rw (← c.self.view_is) c.prepare_all.ensures.still.kept

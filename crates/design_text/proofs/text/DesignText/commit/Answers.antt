use Rattle.std.proofs.Common.{◌∙◌, IsOk, refl, sym, subst}
use Rattle.def_grammar.specs.Records.{read_def}
use Rattle.text_pieces.specs.Lent.{numbered_records}
use Rattle.design_tables.specs.Listings.{AreTablesOf}
use Rattle.design_tables.specs.Prepared as tables
use Rattle.design_text.proofs.KeptExchanges.{exchange_is, kept_where_it_leads}
use Rattle.design_text.proofs.StepLemmas.{made_text, still_records}
use Rattle.design_text.proofs.text.DesignText.commit.Goals as goal

pub invariant_of-self : goal.invariant_of-self
invariant_of-self g c =
    let l = rw (← c.self.view_is, ← c.step.view_is) at c.requires.1 in
    let p = c.commit.ensures.leads l.other l.leads in
    let t = c.commit-2.ensures (numbered_records c.self.inside.pieces) (numbered_records l.other) l.names in
    made_text c.records_are_read.ensures.located c.commit.new.self c.commit-2.new.self
    (subst (λ u. IsOk (read_def u)) (sym (p.0.text ∙ l.text)) l.reads)
    (subst (λ xs. AreTablesOf xs c.commit-2.new.self) (sym (still_records l.other c.commit.new.self p.0)) t.base_is)

pub returns-clause-back : goal.returns-clause-back
returns-clause-back g c =
    let l = rw (← c.self.view_is, ← c.step.view_is) at c.requires.1 in
    let p = c.commit.ensures.leads l.other l.leads in
    let t = c.commit-2.ensures (numbered_records c.self.inside.pieces) (numbered_records l.other) l.names in
    record {
      other = c.self.inside.pieces;
      leads = p.1;
      names = subst (λ xs. tables.IsBetween c.commit-2.new.self c.commit-2.new.change xs (numbered_records c.self.inside.pieces)) (sym (still_records l.other c.commit.new.self p.0)) t;
      text = rw (← c.self.view_is) refl;
      reads = c.text_reads.ensures.reads;
    }

pub returns-clause-back_too : goal.returns-clause-back_too
returns-clause-back_too g c =
    let l = rw (← c.self.view_is, ← c.step.view_is) at c.requires.1 in
    let p = c.commit.ensures.leads l.other l.leads in
    record { other = c.self.inside.pieces; leads = p.1; says = rw (← c.self.view_is) refl }

pub returns-clause-exchanged : goal.returns-clause-exchanged
returns-clause-exchanged g c =
    let l = rw (← c.self.view_is, ← c.step.view_is) at c.requires.1 in
    let p = c.commit.ensures.leads l.other l.leads in
    rw (← c.self.view_is) (exchange_is (record { pieces = c.self.inside.pieces; names = c.self.inside.tables }) (record { pieces = c.commit.new.self; names = c.commit-2.new.self }) (record { text = c.commit.new.change; names = c.commit-2.new.change }) p.1 c.statements_are_kept.ensures c.statements_are_parted.ensures)

pub returns-clause-kept : goal.returns-clause-kept
returns-clause-kept g c =
    let l = rw (← c.self.view_is, ← c.step.view_is) at c.requires.1 in
    let p = c.commit.ensures.leads l.other l.leads in
    rw (← c.self.view_is) (kept_where_it_leads c.self.inside.pieces c.commit.new.self c.commit.new.change p.1)

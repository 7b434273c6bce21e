use Rattle.std.proofs.Common.{◌∙◌, List, ap, sym, subst}
use Rattle.std.specs.List.{zip}
use Rattle.design_model.specs.declared.identifier.StmtId.{StmtId}
use Rattle.def_grammar.specs.Records.{read_def}
use Rattle.text_pieces.specs.Tables.{ids_of}
use Rattle.design_tables.specs.Listings.{AreTablesOf}
use Rattle.design_text.proofs.text.DesignText.let_go_of.Goals as goal

pub invariant_of-self : goal.invariant_of-self
invariant_of-self g c =
    let i = c.self.invariant in
    let old = c.self.inside.pieces in
    record {
      design = i.design;
      reads = ap read_def c.let_go.ensures.text ∙ i.reads;
      tables = subst (λ (ids : List StmtId). AreTablesOf (zip ids i.design) c.let_go-2.new.self) (sym c.let_go.ensures.numbers) (c.let_go-2.ensures.same (zip (ids_of old.table) i.design) i.tables);
    }

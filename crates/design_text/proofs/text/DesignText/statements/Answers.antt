use Rattle.std.proofs.Common.{Ok, List, sym, ap, ◌∙◌}
use Rattle.std.specs.Prelude.{map}
use Rattle.design_model.specs.declared.identifier.StmtId.{StmtId}
use Rattle.def_grammar.specs.Records.{Record}
use Rattle.text_pieces.specs.KeptRecords.{record_of}
use Rattle.text_pieces.specs.Tables.{kept_at}
use Rattle.design_text.specs.DesignTexts.{Content}
use Rattle.design_text.proofs.KeptDesigns.{kept_design, ok_so}
use Rattle.design_text.proofs.text.DesignText.statements.Goals as goal

pub returns : goal.returns
returns g c =
    let content : Content = record { pieces = c.self.inside.pieces; names = c.self.inside.tables } in
    let says = λ (id : StmtId). record_of (kept_at content.pieces.table.slots id) in
    let all = c.self.invariant in
    let known = (rw (← c.self.view_is) at c.statements_are_known.ensures) all.design all.reads in
    let ids = ap (map says) (c.deref.ensures.value ∙ c.in_ok-ids.ensures) in
    let design = ids ∙ kept_design content all.design known c.statements_are_kept.ensures in
    rw (← c.self.view_is) (ok_so c.statements_under.result (λ v is. all.reads ∙ ap (λ (l : List Record). Ok l) (sym (is ∙ design))) c.statements_under.ensures)

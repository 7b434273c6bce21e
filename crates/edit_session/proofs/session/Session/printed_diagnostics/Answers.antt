use Rattle.std.proofs.Common.{List, ap, map, ◌∙◌}
use denote.Ref.{Bor}
use Rattle.std.proofs.lemmas.Result.{IfOk-weaker}
use Rattle.design_model.specs.declared.diagnostic.DiagLine.{DiagLine}
use Rattle.design_model.specs.Order.{texts}
use Rattle.def_grammar.specs.Records.{read_def}
use Rattle.report_rules.specs.Output.{report_lines}
use Rattle.design_text.specs.DesignTexts.{text_of}
use Rattle.edit_session.proofs.MeasureLemmas.{design_of}
use Rattle.edit_session.proofs.session.Session.printed_diagnostics.Goals as goal

pub returns-clause-text : goal.returns-clause-text
returns-clause-text g c =
    let library = c.self.inside.library.now in
    let text = text_of c.self.inside.text in
    let read = design_of (read_def text) c.self.invariant.0 in
    let seen = ap (λ (v : List (Bor (DiagLine g.row.A.Denot))). texts (map (λ l. l.now) v)) c.deref.ensures.value in
    let lines = seen ∙ c.in_ok-lines.ensures.lines library read.0 (c.know_lines.ensures.known read.0 read.1) in
    rw (← c.self.view_is) (IfOk-weaker c.check_text.result _ _ (λ v printed. (read.0, read.1, printed ∙ ap report_lines lines)) c.check_text.ensures)

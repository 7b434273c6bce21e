use Rattle.std.proofs.Common.{List}
use Rattle.design_model.specs.declared.diagnostic.DiagLine.{DiagLine}
use Rattle.def_grammar.specs.Records.{read_def}
use Rattle.design_text.specs.DesignTexts.{text_of}
use Rattle.edit_session.proofs.MeasureLemmas.{design_of}
use Rattle.edit_session.proofs.ReportLemmas.{told_of}
use Rattle.edit_session.proofs.session.Session.diagnostics.Goals as goal

pub returns-clause-lines : goal.returns-clause-lines
returns-clause-lines g c =
    let library = c.self.inside.library.now in
    let text = text_of c.self.inside.text in
    let read = design_of (read_def text) c.self.invariant.0 in
    let seen = λ (lines : List (DiagLine g.row.A.Denot)). lines in
    rw (← c.self.view_is) (told_of seen library text read.0 c.joined.result read.1 (c.joined.ensures.lines library read.0 (c.know_lines.ensures.known read.0 read.1)))

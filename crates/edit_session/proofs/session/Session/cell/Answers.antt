use Rattle.std.proofs.Common.{List, ap, ◌∙◌}
use Rattle.def_grammar.specs.Records.{Record}
use Rattle.design_text.specs.DesignTexts.{text_of}
use Rattle.measure_rules.specs.Density.{cell_density}
use Rattle.reports.specs.Answers.{Answers, cell_in}
use Rattle.edit_session.proofs.MeasureLemmas.{measured}
use Rattle.edit_session.proofs.session.Session.cell.Goals as goal

pub returns-clause-density : goal.returns-clause-density
returns-clause-density g c =
    let text = text_of c.self.inside.text in
    let library = c.self.inside.library.now in
    rw (← c.self.view_is) (measured text (λ (design : List Record). cell_density library design c.args.column c.args.row c.args.layer.0) _ c.self.invariant.0 (λ design is. c.cell-density.ensures ∙ ap (λ (a : Answers). cell_in a c.args.column c.args.row c.args.layer.0) c.reports.ensures ∙ (c.in_ok-measures.ensures.answers design is).cell c.args.column c.args.row c.args.layer.0))

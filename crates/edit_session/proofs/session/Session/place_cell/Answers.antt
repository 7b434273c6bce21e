use Rattle.std.proofs.Common.{List, ap, ◌∙◌}
use Rattle.def_grammar.specs.Records.{Record}
use Rattle.design_text.specs.DesignTexts.{text_of}
use Rattle.measure_rules.specs.Density.{place_density}
use Rattle.reports.specs.Answers.{Answers, place_cell_in}
use Rattle.edit_session.proofs.MeasureLemmas.{measured}
use Rattle.edit_session.proofs.session.Session.place_cell.Goals as goal

pub returns-clause-density : goal.returns-clause-density
returns-clause-density g c =
    let text = text_of c.self.inside.text in
    let library = c.self.inside.library.now in
    rw (← c.self.view_is) (measured text (λ (design : List Record). place_density library design c.args.column c.args.row) _ c.self.invariant.0 (λ design is. c.place_cell-density.ensures ∙ ap (λ (a : Answers). place_cell_in a c.args.column c.args.row) c.reports.ensures ∙ (c.in_ok-measures.ensures.answers design is).place_cell c.args.column c.args.row))

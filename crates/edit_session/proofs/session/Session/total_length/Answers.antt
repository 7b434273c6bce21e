use Rattle.std.proofs.Common.{List, ap, ◌∙◌}
use Rattle.def_grammar.specs.Records.{Record}
use Rattle.design_rules.specs.Boxes.{scale}
use Rattle.design_text.specs.DesignTexts.{text_of}
use Rattle.measure_rules.specs.Lengths.{total_length}
use Rattle.reports.specs.Answers.{Answers}
use Rattle.edit_session.proofs.MeasureLemmas.{measured}
use Rattle.edit_session.proofs.session.Session.total_length.Goals as goal

pub returns-clause-total : goal.returns-clause-total
returns-clause-total g c =
    let text = text_of c.self.inside.text in
    let library = c.self.inside.library.now in
    rw (← c.self.view_is) (measured text (λ (design : List Record). total_length library design (scale design)) _ c.self.invariant.0 (λ design is. c.total_length-total.ensures ∙ ap (λ (a : Answers). a.total_length) c.reports.ensures ∙ (c.in_ok-measures.ensures.answers design is).total_length))

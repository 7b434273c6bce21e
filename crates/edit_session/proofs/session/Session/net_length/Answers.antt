use Rattle.std.proofs.Common.{List, ap, ◌∙◌}
use Rattle.def_grammar.specs.Records.{Record}
use Rattle.design_rules.specs.Boxes.{scale}
use Rattle.design_text.specs.DesignTexts.{text_of}
use Rattle.measure_rules.specs.Lengths.{net_length}
use Rattle.reports.specs.Answers.{Answers, length_in}
use Rattle.edit_session.proofs.MeasureLemmas.{measured}
use Rattle.edit_session.proofs.session.Session.net_length.Goals as goal

pub returns-clause-length : goal.returns-clause-length
returns-clause-length g c =
    let text = text_of c.self.inside.text in
    let library = c.self.inside.library.now in
    rw (← c.self.view_is) (measured text (λ (design : List Record). net_length library design (scale design) c.args.net.now) _ c.self.invariant.0 (λ design is. c.net_length-length.ensures ∙ ap (λ (a : Answers). length_in a c.args.net.now) c.reports.ensures ∙ (c.in_ok-measures.ensures.answers design is).net_length c.args.net.now))

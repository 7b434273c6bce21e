use Rattle.std.proofs.Common.{ap, ◌∙◌}
use Rattle.via_parts.specs.RuleViews.{rule_clauses_of, rule_view}
use Rattle.design_wires.specs.RuleLayers.{first_width}
use Rattle.design_wires.proofs.FirstLemmas.{first_is_rule_width}
use Rattle.design_wires.proofs.rule_widths.def_rule_width.Goals as goal

pub returns-clause-is : goal.returns-clause-is
returns-clause-is c =
    c.first_width.ensures.is ∙ ap (λ p. first_width c.args.layer.now (rule_clauses_of p)) c.again.ensures ∙ first_is_rule_width c.args.layer.now (rule_view c.args.rule.now)

use Rattle.std.proofs.Common.{sym, ap, ◌∙◌}
use Rattle.std.specs.Option.{option_map}
use Rattle.cell_library.specs.Naming.{seen_by}
use Rattle.cell_library.specs.RuleViews.{rule_view}
use Rattle.design_names.specs.NameViews.{lent_rule}
use Rattle.design_wires.specs.Scales.{units_of}
use Rattle.design_wires.proofs.LefWidths.{rule_in_lef}
use Rattle.design_wires.proofs.widths.rule_width.Goals as goal

pub returns-in-Some-rule-clause-is : goal.returns-in-Some-rule-clause-is
returns-in-Some-rule-clause-is g c =
    let name = c.args.rule.now in
    rule_in_lef c.args.library.now c.args.names.now (units_of c.args.scale) c.args.layer.now name c.in-Some-rule.found.now c.lef_rule_width.result
    (sym c.rule.ensures ∙ ap (option_map lent_rule) c.in_default.is) (sym c.rule-2.ensures ∙ ap (option_map (seen_by rule_view name)) c.in-Some-rule.is) (c.lef_rule_width.ensures.is name)

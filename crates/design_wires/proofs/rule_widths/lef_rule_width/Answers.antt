use Rattle.std.proofs.Common.{sym, ap, ◌∙◌}
use Rattle.design_wires.specs.Scales.{units_of}
use Rattle.design_wires.proofs.LefWidths.{lef_width_lent, width_in, width_lent, width_there}
use Rattle.design_wires.proofs.rule_widths.lef_rule_width.Goals as goal

pub returns-in_err-get-clause-is : goal.returns-in_err-get-clause-is
returns-in_err-get-clause-is g c = λ name.
    let u = units_of c.args.scale in
    c.from_residual.ensures ∙ ap (width_lent u) (sym c.in_err-get.was) ∙ lef_width_lent u c.args.layer.now name c.args.rule.now c.get.result c.get.ensures

pub returns-in_err-width-clause-is : goal.returns-in_err-width-clause-is
returns-in_err-width-clause-is g c = λ name.
    let u = units_of c.args.scale in
    c.from_residual-in_err-width.ensures ∙ ap (width_in u) (sym c.in_err-width.was) ∙ ap (width_lent u) (sym c.in_ok-get.was)
    ∙ lef_width_lent u c.args.layer.now name c.args.rule.now c.get.result c.get.ensures

pub returns-clause-is : goal.returns-clause-is
returns-clause-is g c = λ name.
    let u = units_of c.args.scale in
    width_there u c.in_ok-width.width c.in_units.result c.per_micron.result c.per_micron.ensures.is c.in_units.ensures.units c.in_units.ensures.bound
    ∙ ap (width_in u) (sym c.in_ok-width.was) ∙ ap (width_lent u) (sym c.in_ok-get.was)
    ∙ lef_width_lent u c.args.layer.now name c.args.rule.now c.get.result c.get.ensures

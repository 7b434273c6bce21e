use Rattle.std.proofs.Common.{Option, ap, ◌∙◌}
use Rattle.design_model.specs.Geometry.{Rectangle}
use Rattle.measure_rules.specs.NetBoxes.{box_round}
use Rattle.net_lists.specs.NetViews.{net_view}
use Rattle.reports.specs.MeasuredNets.{MeasuredNet}
use Rattle.reports.proofs.DrawnSteps.{rectangles_lent}
use Rattle.reports.proofs.drawn_nets.measures_of.Goals as goal

pub returns : goal.returns
returns c =
    let net = c.args.net.now in
    let of_box : Option Rectangle → MeasuredNet = λ b. record { name = (net_view net).name; net_length = c.args.net_length; net_box = b } in
    ap of_box (c.box_round.ensures ∙ ap box_round (rectangles_lent net net.whole))

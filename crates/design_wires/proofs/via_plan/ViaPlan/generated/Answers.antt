use Rattle.std.proofs.Common.{FitsSigned, w32, rules}
use Rattle.design_wires.proofs.PlanLemmas.{cuts_are, made}
use Rattle.design_wires.proofs.via_plan.ViaPlan.generated.Goals as goal

pub returns-clause-is : goal.returns-clause-is
returns-clause-is c =
    let array = c.or_one_cut-array.result in
    let f : FitsSigned w32 c.or_one_cut-array.result.rows = search rules in
    let g : FitsSigned w32 c.or_one_cut-array.result.columns = search rules in
    made c.args.self c.in_ok-cut_size.cut_size c.in_ok-cut_spacing.cut_spacing c.or_origin.result c.as_sizes.result c.as_sizes-2.result c.in_ok-layers.layers c.in_ok-enclosure.enclosure
    c.or_no_metals-offset.result array c.as_cuts.result c.as_cuts-2.result c.in_ok-cut_size.was c.in_ok-layers.was c.in_ok-cut_spacing.was c.in_ok-enclosure.was
    c.or_one_cut-array.ensures c.or_no_metals-offset.ensures.is c.as_sizes.ensures.is c.as_sizes-2.ensures.is (cuts_are c.as_cuts.result array.rows f c.as_cuts.ensures.is)
    (cuts_are c.as_cuts-2.result array.columns g c.as_cuts-2.ensures.is) c.or_origin.ensures.is

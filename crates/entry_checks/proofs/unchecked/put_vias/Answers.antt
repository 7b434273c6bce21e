use Rattle.cell_library.specs.ViaViews.{via_view}
use Rattle.entry_checks.specs.UncheckedViews.{unchecked_of_via}
use Rattle.entry_checks.proofs.ReportSteps.{all_reported, one_reported}
use Rattle.entry_checks.proofs.unchecked.put_vias.Goals as goal

pub loop-name-preserved : goal.loop-name-preserved
loop-name-preserved g c =
    one_reported via_view unchecked_of_via c.args.vias.now c.loop-name.place _ _ c.loop-name.invariant (c.in-Some.name.now, c.in-Some.via.now) _ c.in-Some.ensures.there c.in_ok-put_unchecked.ensures

pub returns : goal.returns
returns g c = all_reported via_view unchecked_of_via c.args.vias.now c.loop-name.place _ _ c.loop-name.invariant c.in_default.ensures.there

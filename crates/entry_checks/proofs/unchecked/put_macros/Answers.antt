use Rattle.cell_library.specs.MacroViews.{macro_view}
use Rattle.entry_checks.specs.UncheckedViews.{unchecked_of_macro}
use Rattle.entry_checks.proofs.ReportSteps.{all_reported, one_reported}
use Rattle.entry_checks.proofs.unchecked.put_macros.Goals as goal

pub loop-name-preserved : goal.loop-name-preserved
loop-name-preserved g c =
    let pushed = rw c.unchecked.ensures at c.in_ok-put_unchecked.ensures in
    one_reported macro_view unchecked_of_macro c.args.macros.now c.loop-name.place _ _ c.loop-name.invariant (c.in-Some.name.now, c.in-Some.cell.now) _ c.in-Some.ensures.there pushed

pub returns : goal.returns
returns g c = all_reported macro_view unchecked_of_macro c.args.macros.now c.loop-name.place _ _ c.loop-name.invariant c.in_default.ensures.there

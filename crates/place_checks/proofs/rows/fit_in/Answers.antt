use Rattle.place_checks.proofs.FitLemmas.{fit_in_both}
use Rattle.place_checks.specs.Views.{boxed_view}
use Rattle.place_checks.proofs.rows.fit_in.Goals as goal

pub returns : goal.returns
returns c = rw (c.better.ensures, c.best_fit.ensures, c.best_fit-2.ensures) (fit_in_both (boxed_view c.args.component.now) c.args.beside.now c.args.elsewhere.now)

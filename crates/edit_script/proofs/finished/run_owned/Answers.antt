use Rattle.edit_script.proofs.EndLemmas.{err_so, ok_so, stops_by}
use Rattle.edit_script.proofs.finished.run_owned.Goals as goal

pub returns-clause-ok : goal.returns-clause-ok
returns-clause-ok g c = ok_so _ _ c.finish_over.result (λ t h. (c.in-Ok.library, c.in-Ok.ensures, h)) c.finish_over.ensures.ok

pub returns-clause-fault : goal.returns-clause-fault
returns-clause-fault g c = err_so _ _ c.finish_over.result (λ e h. stops_by c.args.lefs.now c.in-Ok.library _ _ _ _ _ _ e c.in-Ok.ensures h) c.finish_over.ensures.fault

use Rattle.edit_script.proofs.EndLemmas.{stopped_by_out, stopped_by_text}
use Rattle.edit_script.proofs.run.answer_all.Goals as goal

pub returns-in-Err-Write-clause-fault : goal.returns-in-Err-Write-clause-fault
returns-in-Err-Write-clause-fault g c = stopped_by_out c.args.session.now.library _ c.args.script.now _ _ _ c.in-Err-Write.ensures.err

pub returns-in-Err-clause-fault : goal.returns-in-Err-clause-fault
returns-in-Err-clause-fault g c = stopped_by_text c.args.session.now.library _ c.args.script.now _ _ _ _ _ _ c.in-Ok.ensures.ok c.in-Err.ensures.err

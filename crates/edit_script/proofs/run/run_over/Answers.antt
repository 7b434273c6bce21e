use Rattle.edit_script.proofs.run.run_over.Goals as goal

pub returns-clause-ok : goal.returns-clause-ok
returns-clause-ok g c = rw (c.in-Ok.ensures.library, c.in-Ok.ensures.text) at c.run_in.ensures.ok

pub returns-clause-fault : goal.returns-clause-fault
returns-clause-fault g c = rw (c.in-Ok.ensures.library, c.in-Ok.ensures.text) at c.run_in.ensures.fault

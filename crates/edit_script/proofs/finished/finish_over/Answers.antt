use Rattle.std.proofs.lemmas.Result.{err_from_is_err_and}
use Rattle.edit_script.proofs.EndLemmas.{err_of_other}
use Rattle.edit_script.proofs.finished.finish_over.Goals as goal

pub returns-in_err-tally-clause-fault : goal.returns-in_err-tally-clause-fault
returns-in_err-tally-clause-fault g c =
    let p = err_from_is_err_and c.from_residual.result c.from_residual.ensures.1 in
    rw (p.1, p.2) (rw (c.in-Ok.ensures.library, c.in-Ok.ensures.text) at c.in_err-tally.ensures.fault)

pub returns-in_err-tally-clause-read_hard : goal.returns-in_err-tally-clause-read_hard
returns-in_err-tally-clause-read_hard g c =
    let p = err_from_is_err_and c.from_residual.result c.from_residual.ensures.1 in
    rw (p.1, p.2) c.in_err-tally.ensures.read_hard

pub returns-in_err-tally-clause-write : goal.returns-in_err-tally-clause-write
returns-in_err-tally-clause-write g c =
    let p = err_from_is_err_and c.from_residual.result c.from_residual.ensures.1 in
    rw (p.1, p.2) (λ is. c.in_err-tally.ensures.write (err_of_other _ _ is))

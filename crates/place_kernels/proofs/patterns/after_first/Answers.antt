use Rattle.place_kernels.proofs.Parts.{place_found, place_none}
use Rattle.place_kernels.proofs.patterns.after_first.Goals as goal

pub returns-in_err-at : goal.returns-in_err-at
returns-in_err-at c = rw c.from_residual.ensures (place_none _ _ c.in_err-at.ensures)

pub returns : goal.returns
returns c = place_found _ _ _ c.in_ok-at.ensures

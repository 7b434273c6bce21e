use Rattle.measuring_laws.proofs.Cells.{told_cells_follow}
use Rattle.measuring_laws.proofs.told_cells_follow.Goals as goal

pub returns : goal.returns
returns c = told_cells_follow

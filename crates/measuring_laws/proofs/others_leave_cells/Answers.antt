use Rattle.measuring_laws.proofs.Cells.{others_leave_cells}
use Rattle.measuring_laws.proofs.others_leave_cells.Goals as goal

pub returns : goal.returns
returns c = others_leave_cells

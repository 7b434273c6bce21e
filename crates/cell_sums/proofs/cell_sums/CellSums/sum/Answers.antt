use Rattle.std.proofs.Common.{arith}
use Rattle.cell_sums.proofs.TableLemmas.{sum_fits}
use Rattle.cell_sums.proofs.cell_sums.CellSums.sum.Goals as goal

pub overflow_add-result : goal.overflow_add-result
overflow_add-result g c =
    let fits = sum_fits c.self.inside.columns c.self.inside.rows c.self.inside.flat c.self.inside.upright c.self.inside.added c.self.invariant c.args.layer c.args.column c.args.row in
    omega (arith, fits, c.sum-flat.ensures, c.sum-upright.ensures)

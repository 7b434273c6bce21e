use Rattle.std.proofs.Common.{rules}
use Rattle.shape_pairs.proofs.grid.Grid.home.Goals as goal

pub returns : goal.returns
returns c = rw (c.bin_at.ensures.bin, c.column_at-column.ensures.column, c.row_at-row.ensures.row, c.max.ensures.value, c.max-2.ensures.value) (search rules)

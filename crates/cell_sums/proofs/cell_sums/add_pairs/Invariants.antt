use Rattle.cell_sums.specs.Tables.{spanned}
use Rattle.cell_sums.proofs.RectangleLemmas.{RowsGoing}
use Rattle.cell_sums.proofs.cell_sums.add_pairs.Given as goal

abbrev pub invariant-loop-major : goal.invariant-loop-major
invariant-loop-major g l = RowsGoing l.lines l.crossing l.layer (spanned l.along.stretch l.across.stretch) l.initial.sheet l.sheet l.initial.major l.major

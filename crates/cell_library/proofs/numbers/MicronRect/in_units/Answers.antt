use Rattle.cell_library.proofs.UnitLemmas.{spanned_within}
use Rattle.cell_library.proofs.numbers.MicronRect.in_units.Goals as goal

pub returns-clause-bound : goal.returns-clause-bound
returns-clause-bound c =
    rw (c.span.ensures)
    (spanned_within 100000000000 c.in_units.result c.in_units-2.result c.in_units.ensures.near c.in_units.ensures.low c.in_units-2.ensures.near c.in_units-2.ensures.low)

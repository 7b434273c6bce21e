use Rattle.std.proofs.Common.{rules}
use Rattle.def_grammar.specs.Grids.{grid_lines}
use Rattle.place_parts.proofs.GridLemmas.{left_of_count}
use Rattle.place_parts.proofs.grids.grid_lines_at.Goals as goal

pub returns-clause-gives : goal.returns-clause-gives
unfolding grid_lines
returns-clause-gives c =
    let count = left_of_count _ _ _ _ _ _ c.in-Some-lines_at.ensures.gives c.in-Some-key-2.ensures.gives c.in-Some-size_at.ensures.gives in
    search (rules, count)

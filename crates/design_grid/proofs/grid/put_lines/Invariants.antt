use Rattle.std.proofs.Common.{◌≡◌, ◌++◌, ◌-◌, map, nat_abs}
use Rattle.def_grammar.specs.Numbers.{int_of}
use Rattle.shape_rules.specs.Classes.{numbers}
use Rattle.measure_rules.specs.GridCells.{line_at}
use Rattle.place_parts.specs.GridViews.{lines_view}
use Rattle.design_grid.proofs.grid.put_lines.Given as goal

abbrev pub invariant-loop-at : goal.invariant-loop-at
invariant-loop-at g l =
    l.lines.items ++ map (line_at (lines_view l.grid)) (numbers l.at (nat_abs (int_of l.grid.count.bytes.now) - l.at))
    ≡ l.initial.lines.items ++ map (line_at (lines_view l.grid)) (numbers 0 (nat_abs (int_of l.grid.count.bytes.now)))

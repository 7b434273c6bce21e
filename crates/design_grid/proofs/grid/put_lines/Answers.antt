use Rattle.std.proofs.Common.{rules, ℕ, nat_abs, ◌<◌, ◌≤◌}
use Rattle.def_grammar.specs.Numbers.{int_of}
use Rattle.measure_rules.specs.GridCells.{line_at}
use Rattle.place_parts.specs.GridViews.{lines_view}
use Rattle.design_grid.proofs.AlongLemmas.{next_line, no_line_more}
use Rattle.design_grid.proofs.grid.put_lines.Goals as goal

pub loop-at-preserved : goal.loop-at-preserved
loop-at-preserved g c =
    let grid = lines_view c.args.grid.now in
    let n : ℕ = nat_abs (int_of grid.count) in
    let below : c.loop-at.at < n = search rules in
    next_line (line_at grid) _ c.loop-at.at n c.loop-at.lines.items c.push.new.self.items below c.loop-at.invariant (search rules)

pub returns : goal.returns
returns g c =
    let grid = lines_view c.args.grid.now in
    let n : ℕ = nat_abs (int_of grid.count) in
    let past : n ≤ c.loop-at.at = search rules in
    no_line_more (line_at grid) _ c.loop-at.at n c.loop-at.lines.items past c.loop-at.invariant

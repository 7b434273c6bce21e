use Rattle.kept_lines.specs.Merging.{left_of}
use Rattle.kept_lines.proofs.MergeLemmas.{all_pushed, merged_in_order, merged_texts}
use Rattle.kept_lines.proofs.merged.merged.Goals as goal

pub returns-clause-lines : goal.returns-clause-lines
returns-clause-lines g c =
    let first = c.args.first.now in
    let second = c.args.second.now in
    let all = all_pushed c.loop-line.lines.items (left_of first second c.loop-line.first_at c.loop-line.second_at) (left_of first second 0 0) c.loop-line.invariant c.in_default.ensures in
    merged_texts first second c.loop-line.lines.items all c.requires.first c.requires.second

pub returns-clause-in_order : goal.returns-clause-in_order
returns-clause-in_order g c =
    let first = c.args.first.now in
    let second = c.args.second.now in
    let all = all_pushed c.loop-line.lines.items (left_of first second c.loop-line.first_at c.loop-line.second_at) (left_of first second 0 0) c.loop-line.invariant c.in_default.ensures in
    merged_in_order first second c.loop-line.lines.items all c.requires.first c.requires.second

pub returns-clause-kinds : goal.returns-clause-kinds
returns-clause-kinds g c =
    let first = c.args.first.now in
    let second = c.args.second.now in
    let all = all_pushed c.loop-line.lines.items (left_of first second c.loop-line.first_at c.loop-line.second_at) (left_of first second 0 0) c.loop-line.invariant c.in_default.ensures in
    (merged_in_order first second c.loop-line.lines.items all c.requires.first c.requires.second).kinds

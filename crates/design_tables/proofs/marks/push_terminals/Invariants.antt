use Rattle.std.proofs.Common.{◌≡◌, ◌++◌, map}
use Rattle.std.specs.List.{flat_map}
use Rattle.wire_parts.specs.TerminalViews.{terminals_of}
use Rattle.design_tables.specs.Marks.{terminal_marks}
use Rattle.design_tables.specs.MarkViews.{name_mark_view}
use Rattle.design_tables.proofs.marks.push_terminals.Given as goal

abbrev pub invariant-loop-terminal : goal.invariant-loop-terminal
invariant-loop-terminal g l = map name_mark_view l.marks.items ++ flat_map terminal_marks (terminals_of l.left) ≡ map name_mark_view l.initial.marks.items ++ flat_map terminal_marks (terminals_of l.initial.left)

abbrev pub decreases-loop-terminal : goal.decreases-loop-terminal
decreases-loop-terminal g l = l.left.most

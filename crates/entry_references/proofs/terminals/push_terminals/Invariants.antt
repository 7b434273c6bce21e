use Rattle.std.proofs.Common.{◌≡◌, ◌++◌, flat_map}
use Rattle.wire_parts.specs.TerminalViews.{terminals_of}
use Rattle.entry_rules.specs.References.{terminal_references}
use Rattle.entry_references.specs.ReferenceViews.{references_view}
use Rattle.entry_references.proofs.terminals.push_terminals.Given as goal

abbrev pub invariant-loop-terminal : goal.invariant-loop-terminal
invariant-loop-terminal g l =
    references_view l.found.items ++ flat_map terminal_references (terminals_of l.left) ≡ references_view l.fn.found.items ++ flat_map terminal_references (terminals_of l.fn.terminals)

abbrev pub decreases-loop-terminal : goal.decreases-loop-terminal
decreases-loop-terminal g l = l.left.most

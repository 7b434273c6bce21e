use Rattle.std.proofs.Common.{◌≡◌}
use Rattle.std.specs.List.{list_any}
use Rattle.def_grammar.specs.Terminals.{is_of_all}
use Rattle.wire_parts.specs.TerminalViews.{terminals_of}
use Rattle.followed_nets.proofs.stars.is_any_of_all.Given as goal

abbrev pub invariant-loop-terminal : goal.invariant-loop-terminal
invariant-loop-terminal l = list_any is_of_all (terminals_of l.left) ≡ list_any is_of_all (terminals_of l.fn.terminals)

abbrev pub decreases-loop-terminal : goal.decreases-loop-terminal
decreases-loop-terminal l = l.left.most

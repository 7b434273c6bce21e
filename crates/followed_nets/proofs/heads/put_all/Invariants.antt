use Rattle.std.proofs.Common.{◌≡◌, ◌++◌, map}
use Rattle.wire_parts.specs.TerminalViews.{terminal_view, terminals_of}
use Rattle.followed_nets.proofs.heads.put_all.Given as goal

abbrev pub invariant-loop-terminal : goal.invariant-loop-terminal
invariant-loop-terminal g l = map terminal_view l.all.items ++ terminals_of l.left ≡ map terminal_view l.initial.all.items ++ terminals_of l.terminals

abbrev pub decreases-loop-terminal : goal.decreases-loop-terminal
decreases-loop-terminal g l = l.left.most

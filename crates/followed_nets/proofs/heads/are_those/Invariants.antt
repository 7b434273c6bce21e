use Rattle.std.proofs.Common.{◌≡◌, ◌++◌, map, take}
use Rattle.wire_parts.specs.TerminalViews.{terminal_view, terminals_of}
use Rattle.followed_nets.proofs.heads.are_those.Given as goal

abbrev pub invariant-loop-other : goal.invariant-loop-other
invariant-loop-other l = map terminal_view (take l.other-index l.sought) ++ terminals_of l.left ≡ terminals_of l.terminals

use Rattle.std.proofs.Common.{◌≡◌, ◌++◌, map}
use Rattle.wire_parts.specs.TerminalViews.{terminals_of}
use Rattle.def_reader.specs.StatementViews.{record_view}
use Rattle.design_text.specs.DesignTexts.{design_of}
use Rattle.followed_nets.specs.Owners.{owners_in}
use Rattle.followed_nets.proofs.told_statements.push_owners.Given as goal

abbrev pub invariant-loop-terminal : goal.invariant-loop-terminal
invariant-loop-terminal g l =
    map record_view l.statements.items ++ owners_in (design_of l.text) (terminals_of l.left) ≡ map record_view l.initial.statements.items ++ owners_in (design_of l.text) (terminals_of l.terminals)

abbrev pub decreases-loop-terminal : goal.decreases-loop-terminal
decreases-loop-terminal g l = l.left.most

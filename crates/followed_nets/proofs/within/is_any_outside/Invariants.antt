use Rattle.std.proofs.Common.{◌≡◌, ◌||◌, drop, not}
use Rattle.std.specs.List.{list_any}
use Rattle.def_grammar.specs.Terminals.{is_of_all}
use Rattle.def_reader.specs.StatementViews.{records_view}
use Rattle.net_laws.specs.NetsTold.{terminals_of}
use Rattle.net_laws.specs.Within.{is_within}
use Rattle.followed_nets.specs.SubjectViews.{subject_view}
use Rattle.followed_nets.proofs.within.is_any_outside.Given as goal

abbrev pub invariant-loop-statement : goal.invariant-loop-statement
invariant-loop-statement g l =
    list_any (λ r. not (is_within l.nets (subject_view l.subject) r) || list_any is_of_all (terminals_of r)) (records_view (drop l.statement-index l.statements))
    ≡ list_any (λ r. not (is_within l.nets (subject_view l.subject) r) || list_any is_of_all (terminals_of r)) (records_view l.statements)

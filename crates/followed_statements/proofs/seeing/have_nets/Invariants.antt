use Rattle.std.proofs.Common.{◌≡◌, drop}
use Rattle.std.specs.List.{list_any}
use Rattle.def_reader.specs.StatementViews.{records_view}
use Rattle.followed_statements.specs.Seen.{is_of_net}
use Rattle.followed_statements.proofs.seeing.have_nets.Given as goal

abbrev pub invariant-loop-statement : goal.invariant-loop-statement
invariant-loop-statement l = list_any is_of_net (records_view (drop l.statement-index l.statements)) ≡ list_any is_of_net (records_view l.statements)

use Rattle.std.proofs.Common.{drop}
use Rattle.def_reader.specs.StatementViews.{records_view}
use Rattle.followed_statements.specs.Following.{ShowSame}
use Rattle.followed_statements.proofs.showing.all_show_same.Given as goal

abbrev pub invariant-loop-place : goal.invariant-loop-place
invariant-loop-place l = ShowSame (records_view (drop l.place l.went)) (records_view (drop l.place l.came)) → ShowSame (records_view l.went) (records_view l.came)

use Rattle.std.proofs.Common.{drop}
use Rattle.std.specs.Option.{option_map}
use Rattle.followed_statements.specs.Following.{ShowSame}
use Rattle.followed_statements.specs.Seen.{is_seen_record, passing}
use Rattle.followed_statements.proofs.seeing.seen_show_same.Given as goal

abbrev pub invariant-loop-statement : goal.invariant-loop-statement
invariant-loop-statement l =
    let test = is_seen_record (option_map (λ c. c.now) l.component) in
    ShowSame (passing test (drop l.statement-index l.went)) (passing test (drop l.from l.came)) → ShowSame (passing test l.went) (passing test l.came)

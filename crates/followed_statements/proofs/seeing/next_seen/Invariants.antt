use Rattle.std.proofs.Common.{◌≡◌, drop}
use Rattle.std.specs.Option.{option_map}
use Rattle.followed_statements.specs.Seen.{is_seen_record, passing}
use Rattle.followed_statements.proofs.seeing.next_seen.Given as goal

abbrev pub invariant-loop-place : goal.invariant-loop-place
invariant-loop-place l =
    let test = is_seen_record (option_map (λ c. c.now) l.component) in
    passing test (drop l.from l.statements) ≡ passing test (drop l.place l.statements)

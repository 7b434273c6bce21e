use Rattle.std.proofs.Common.{sym, ◌∙◌}
use Rattle.std.specs.Option.{option_map}
use Rattle.followed_statements.specs.Seen.{is_seen_record}
use Rattle.followed_statements.proofs.WalkLemmas.{met_first}
use Rattle.followed_statements.proofs.seeing.next_seen.Goals as goal

pub returns-then-is_seen_statement-clause-one : goal.returns-then-is_seen_statement-clause-one
returns-then-is_seen_statement-clause-one c = (
  c.loop-place-test.true,
  met_first (is_seen_record (option_map (λ x. x.now) c.args.component)) c.args.statements.now c.loop-place.place c.index-statements-place.result c.loop-place-test.true
      c.index-statements-place.is c.args.from (sym c.is_seen_statement.ensures ∙ c.if-is_seen_statement.true) c.loop-place.invariant,
)

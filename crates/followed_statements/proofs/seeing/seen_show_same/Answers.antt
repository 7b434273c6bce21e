use Rattle.std.proofs.Common.{sym, ◌∙◌, rules}
use Rattle.std.specs.Prelude.{IsTrue}
use Rattle.std.specs.Option.{option_map}
use Rattle.followed_statements.specs.Seen.{is_seen_record}
use Rattle.followed_statements.proofs.WalkLemmas.{met_step, skip_step}
use Rattle.followed_statements.proofs.seeing.seen_show_same.Goals.{then-is_seen_statement+in-Some+else-not-statements_show_same, else-is_seen_statement}
use Rattle.followed_statements.proofs.seeing.seen_show_same.Goals as goal

pub loop-statement-preserved : goal.loop-statement-preserved
loop-statement-preserved c =
    let test = is_seen_record (option_map (λ x. x.now) c.args.component) in
    let ws = c.args.went.now in
    let cs = c.args.came.now in
    let i = c.loop-statement.statement-index in
    elim c.if-is_seen_statement.branch [
      | then-is_seen_statement+in-Some+else-not-statements_show_same w ↦
          let same : IsTrue w.statements_show_same.result = search rules in
          rw (w.from-is)
          (met_step test ws cs i c.loop-statement.from c.statement-item.result c.loop-statement-test.true c.statement-item.is c.loop-statement.invariant
          w.in-Some.place w.index-came-place.result w.in-Some.ensures.one.0 w.index-came-place.is (sym c.is_seen_statement.ensures ∙ w.if-is_seen_statement.true)
          w.in-Some.ensures.one.1 (w.statements_show_same.ensures same))
      | else-is_seen_statement w ↦
          rw (w.from-is)
          (skip_step test ws cs i c.loop-statement.from c.statement-item.result c.loop-statement-test.true c.statement-item.is c.loop-statement.invariant
          (sym c.is_seen_statement.ensures ∙ w.if-is_seen_statement.false))
    ]

use Rattle.std.proofs.Common.{◌-◌, ◌+◌, rules, arith, sym, ap, ◌∙◌}
use Rattle.form_meanings.specs.Words.{is_plus}
use Rattle.statement_model.specs.Form.{read, spell}
use Rattle.def_grammar.specs.Components.{clause}
use Rattle.lefdef_tokens.specs.Views.{pieces_of, rest_of}
use Rattle.statement_reader.specs.PartViews.{left_after}
use Rattle.statement_reader.proofs.PartLoops.{going_on, going_wrong, going_ends, going_wrong_at_last, item_read, no_items}
use Rattle.statement_reader.proofs.PastLoops.{past_on, past_ends}
use Rattle.place_parts.specs.ClauseViews.{clause_view}
use Rattle.place_parts.proofs.StandingSteps.{noting_on, noted_standing, noted_region}
use Rattle.place_parts.proofs.standing.pass_clauses.Goals as goal

pub returns-then-not-next_is_plus-clause-gives : goal.returns-then-not-next_is_plus-clause-gives
returns-then-not-next_is_plus-clause-gives c =
    ap left_after
    (going_ends is_plus (read clause) c.args.most (c.args.most - c.loop.counter) (rest_of c.args.cursor) (rest_of c.loop.left) (sym c.if-not-next_is_plus.ensures) c.loop.invariant.going)

pub returns-then-not-next_is_plus-clause-stands : goal.returns-then-not-next_is_plus-clause-stands
returns-then-not-next_is_plus-clause-stands c =
    noted_standing _ _ c.loop.standing c.loop.region (no_items is_plus (read clause) (c.args.most - c.loop.counter) (rest_of c.loop.left) (sym c.if-not-next_is_plus.ensures)) c.loop.invariant.noting

pub returns-then-not-next_is_plus-clause-assigned : goal.returns-then-not-next_is_plus-clause-assigned
returns-then-not-next_is_plus-clause-assigned c =
    noted_region _ _ c.loop.standing c.loop.region (no_items is_plus (read clause) (c.args.most - c.loop.counter) (rest_of c.loop.left) (sym c.if-not-next_is_plus.ensures)) c.loop.invariant.noting

pub returns-in_err-clause-clause-gives : goal.returns-in_err-clause-clause-gives
returns-in_err-clause-clause-gives c =
    rw c.from_residual.ensures
    (ap left_after
    (going_wrong is_plus (read clause) c.args.most c.args.most c.loop.counter (rest_of c.args.cursor) (rest_of c.loop.left) c.loop-test.true (sym c.if-not-next_is_plus.ensures) c.in_err-clause.ensures.gives c.loop.invariant.going))

pub loop-preserved : goal.loop-preserved
loop-preserved c =
    let lt = c.loop-test.true in
    let is = sym c.if-not-next_is_plus.ensures in
    let view = clause_view c.in_ok-clause.clause in
    record {
      going = going_on is_plus (read clause) c.args.most c.args.most c.loop.counter (rest_of c.args.cursor) (rest_of c.loop.left) (rest_of c.in_ok-clause.later) view lt is c.in_ok-clause.ensures.gives c.loop.invariant.going;
      past = past_on (spell clause) is_plus (read clause) c.args.most c.args.most c.loop.counter (rest_of c.args.cursor) (rest_of c.loop.left) (rest_of c.in_ok-clause.later) view (pieces_of c.args.cursor.tokens) (pieces_of c.loop.left.tokens) (pieces_of c.in_ok-clause.later.tokens) lt is c.in_ok-clause.ensures.gives c.in_ok-clause.ensures.left c.loop.invariant.past;
      noting = noting_on _ _ _ view c.loop.standing c.note_standing.new.standing c.loop.region c.note_region.new.region
          (item_read is_plus (read clause) (c.args.most - c.loop.counter) (c.args.most - (c.loop.counter + 1)) (rest_of c.loop.left) (rest_of c.in_ok-clause.later) view (omega arith) is c.in_ok-clause.ensures.gives)
          c.note_standing.ensures c.note_region.ensures c.loop.invariant.noting;
      later = search rules;
    }

pub returns-then-goes_on-clause-gives : goal.returns-then-goes_on-clause-gives
returns-then-goes_on-clause-gives c =
    let over = c.loop-test.false in
    ap left_after
    (going_wrong_at_last is_plus (read clause) c.args.most (c.args.most - c.loop.counter) (rest_of c.args.cursor) (rest_of c.loop.left) (omega arith) (sym c.next_is_plus-goes_on.ensures ∙ c.if-goes_on.true) c.loop.invariant.going)

pub returns-else-goes_on-clause-gives : goal.returns-else-goes_on-clause-gives
returns-else-goes_on-clause-gives c =
    ap left_after
    (going_ends is_plus (read clause) c.args.most (c.args.most - c.loop.counter) (rest_of c.args.cursor) (rest_of c.loop.left) (sym c.next_is_plus-goes_on.ensures ∙ c.if-goes_on.false) c.loop.invariant.going)

pub returns-else-goes_on-clause-stands : goal.returns-else-goes_on-clause-stands
returns-else-goes_on-clause-stands c =
    noted_standing _ _ c.loop.standing c.loop.region (no_items is_plus (read clause) (c.args.most - c.loop.counter) (rest_of c.loop.left) (sym c.next_is_plus-goes_on.ensures ∙ c.if-goes_on.false)) c.loop.invariant.noting

pub returns-else-goes_on-clause-assigned : goal.returns-else-goes_on-clause-assigned
returns-else-goes_on-clause-assigned c =
    noted_region _ _ c.loop.standing c.loop.region (no_items is_plus (read clause) (c.args.most - c.loop.counter) (rest_of c.loop.left) (sym c.next_is_plus-goes_on.ensures ∙ c.if-goes_on.false)) c.loop.invariant.noting

pub returns-then-not-next_is_plus-clause-left : goal.returns-then-not-next_is_plus-clause-left
returns-then-not-next_is_plus-clause-left c =
    past_ends (spell clause) is_plus (read clause) c.args.most (c.args.most - c.loop.counter) (rest_of c.args.cursor) (rest_of c.loop.left) (pieces_of c.args.cursor.tokens) (pieces_of c.loop.left.tokens) (sym c.if-not-next_is_plus.ensures) c.loop.invariant.past

pub returns-else-goes_on-clause-left : goal.returns-else-goes_on-clause-left
returns-else-goes_on-clause-left c =
    past_ends (spell clause) is_plus (read clause) c.args.most (c.args.most - c.loop.counter) (rest_of c.args.cursor) (rest_of c.loop.left) (pieces_of c.args.cursor.tokens) (pieces_of c.loop.left.tokens) (sym c.next_is_plus-goes_on.ensures ∙ c.if-goes_on.false) c.loop.invariant.past

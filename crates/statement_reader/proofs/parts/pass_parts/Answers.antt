use Rattle.std.proofs.Common.{◌-◌, rules, arith, sym, ap, ◌∙◌}
use Rattle.lefdef_tokens.specs.Views.{pieces_of, rest_of}
use Rattle.statement_reader.specs.PartViews.{left_after}
use Rattle.statement_reader.proofs.PartLoops.{going_on, going_wrong, going_ends, going_wrong_at_last}
use Rattle.statement_reader.proofs.PastLoops.{past_on, past_ends}
use Rattle.statement_reader.proofs.parts.pass_parts.Goals as goal

pub returns-then-not-next_begins-clause-gives : goal.returns-then-not-next_begins-clause-gives
returns-then-not-next_begins-clause-gives g c =
    ap left_after
    (going_ends g.P.Part.test g.P.Part.reads c.args.most (c.args.most - c.loop.counter) (rest_of c.args.cursor) (rest_of c.loop.left) (sym c.if-not-next_begins.ensures) c.loop.invariant.going)

pub returns-in_err-later-clause-gives : goal.returns-in_err-later-clause-gives
returns-in_err-later-clause-gives g c =
    rw c.from_residual.ensures
    (ap left_after
    (going_wrong g.P.Part.test g.P.Part.reads c.args.most c.args.most c.loop.counter (rest_of c.args.cursor) (rest_of c.loop.left) c.loop-test.true (sym c.if-not-next_begins.ensures) c.in_err-later.ensures.gives c.loop.invariant.going))

pub loop-preserved : goal.loop-preserved
loop-preserved g c = record {
  going = going_on g.P.Part.test g.P.Part.reads c.args.most c.args.most c.loop.counter (rest_of c.args.cursor) (rest_of c.loop.left) (rest_of c.in_ok-later.later) (g.P.Part.view c.in_ok-later.field-0-0) c.loop-test.true (sym c.if-not-next_begins.ensures) c.in_ok-later.ensures.gives c.loop.invariant.going;
  past = past_on g.P.Part.spells g.P.Part.test g.P.Part.reads c.args.most c.args.most c.loop.counter (rest_of c.args.cursor) (rest_of c.loop.left) (rest_of c.in_ok-later.later) (g.P.Part.view c.in_ok-later.field-0-0) (pieces_of c.args.cursor.tokens) (pieces_of c.loop.left.tokens) (pieces_of c.in_ok-later.later.tokens) c.loop-test.true (sym c.if-not-next_begins.ensures) c.in_ok-later.ensures.gives c.in_ok-later.ensures.left c.loop.invariant.past;
  later = search rules;
}

pub returns-then-goes_on-clause-gives : goal.returns-then-goes_on-clause-gives
returns-then-goes_on-clause-gives g c =
    let over = c.loop-test.false in
    ap left_after
    (going_wrong_at_last g.P.Part.test g.P.Part.reads c.args.most (c.args.most - c.loop.counter) (rest_of c.args.cursor) (rest_of c.loop.left) (omega arith) (sym c.next_begins-goes_on.ensures ∙ c.if-goes_on.true) c.loop.invariant.going)

pub returns-else-goes_on-clause-gives : goal.returns-else-goes_on-clause-gives
returns-else-goes_on-clause-gives g c =
    ap left_after
    (going_ends g.P.Part.test g.P.Part.reads c.args.most (c.args.most - c.loop.counter) (rest_of c.args.cursor) (rest_of c.loop.left) (sym c.next_begins-goes_on.ensures ∙ c.if-goes_on.false) c.loop.invariant.going)

pub returns-then-not-next_begins-clause-left : goal.returns-then-not-next_begins-clause-left
returns-then-not-next_begins-clause-left g c =
    past_ends g.P.Part.spells g.P.Part.test g.P.Part.reads c.args.most (c.args.most - c.loop.counter) (rest_of c.args.cursor) (rest_of c.loop.left) (pieces_of c.args.cursor.tokens) (pieces_of c.loop.left.tokens) (sym c.if-not-next_begins.ensures) c.loop.invariant.past

pub returns-else-goes_on-clause-left : goal.returns-else-goes_on-clause-left
returns-else-goes_on-clause-left g c =
    past_ends g.P.Part.spells g.P.Part.test g.P.Part.reads c.args.most (c.args.most - c.loop.counter) (rest_of c.args.cursor) (rest_of c.loop.left) (pieces_of c.args.cursor.tokens) (pieces_of c.loop.left.tokens) (sym c.next_begins-goes_on.ensures ∙ c.if-goes_on.false) c.loop.invariant.past

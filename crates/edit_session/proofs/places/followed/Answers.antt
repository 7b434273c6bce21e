use Rattle.std.proofs.Common.{◌≤◌, ◌≡◌, arith, length, ap, subst, sym}
use Rattle.design_text.specs.Exchanges.{exchange_view, records_in}
use Rattle.followed_places.specs.Places.{AreFollowed, said}
use Rattle.edit_session.proofs.BoxTests.{ahead_then, few_boxes, none_ahead}
use Rattle.edit_session.proofs.FollowLemmas.{all_exchanged, next_exchange}
use Rattle.edit_session.proofs.places.followed.Goals as goal

pub loop-place-init : goal.loop-place-init
loop-place-init g c = record {
  now = c.requires;
  tests = λ old made followed. (old, made, followed, none_ahead c.args.library.now (said old) (said (records_in c.args.text.now)));
}

pub follow-requires : goal.follow-requires
follow-requires g c =
    let i = c.loop-place.invariant.now in
    let next = next_exchange c.args.text.now i.0 (records_in c.args.text.now) c.args.made.now.exchanges c.loop-place.place (exchange_view c.in_ok-exchange.exchange) c.in_ok-exchange.ensures i.1 in
    (i.0, next.0, next.1, i.2)

pub loop-place-preserved : goal.loop-place-preserved
loop-place-preserved g c =
    let text = c.args.text.now in
    let xs = c.args.made.now.exchanges in
    let x = exchange_view c.in_ok-exchange.exchange in
    let i = c.loop-place.invariant.now in
    let next = next_exchange text i.0 (records_in text) xs c.loop-place.place x c.in_ok-exchange.ensures i.1 in
    record {
      now = (next.0, next.2, rw (c.in-Ok-Some.field-0-is) at (c.in-Ok-Some.ensures.followed i.0 next.0 next.1 i.2));
      tests = λ old made followed.
          let j = c.loop-place.invariant.tests old made followed in
          let then = next_exchange text j.0 (records_in text) xs c.loop-place.place x c.in_ok-exchange.ensures j.1 in (
            then.0,
            then.2,
            rw (c.in-Ok-Some.field-0-is) at (c.in-Ok-Some.ensures.followed j.0 then.0 then.1 j.2),
            ahead_then c.args.library.now text.pieces.table.slots j.0 then.0 x then.1 (said old) (said (records_in text)) c.loop-place.place c.loop-place.tests _ _ (omega arith) (omega arith) j.3
                (rw (c.in-Ok-Some.field-0-is) at (c.in-Ok-Some.ensures.tests j.0 then.0 then.1 j.2)) (omega arith),
          );
    }

pub returns-clause-lines : goal.returns-clause-lines
returns-clause-lines g c =
    let i = c.loop-place.invariant.now in
    let last : length c.args.made.now.exchanges ≡ c.loop-place.place = omega (arith, c.loop-place-test.false, c.len-place-end.ensures) in
    let same = all_exchanged c.args.text.now i.0 (records_in c.args.text.now) c.args.made.now.exchanges c.loop-place.place (omega (arith, last)) i.1 in
    subst (λ rs. AreFollowed c.args.library.now rs c.loop-place.places c.loop-place.kept) (sym same) i.2

pub returns-clause-tests : goal.returns-clause-tests
returns-clause-tests g c = λ old made followed.
    let j = c.loop-place.invariant.tests old made followed in
    let last : length c.args.made.now.exchanges ≡ c.loop-place.place = omega (arith, c.loop-place-test.false, c.len-place-end.ensures) in
    let few : length c.args.made.now.exchanges ≤ 8 = omega (arith, c.if-len-gt-MOST_EXCHANGES.false, c.len.ensures) in
    let same = all_exchanged c.args.text.now j.0 (records_in c.args.text.now) c.args.made.now.exchanges c.loop-place.place (omega (arith, last)) j.1 in
    few_boxes c.args.library.now (said old) (said j.0) (said (records_in c.args.text.now)) c.loop-place.place c.loop-place.tests (omega (arith, last, few)) (ap said same) j.3

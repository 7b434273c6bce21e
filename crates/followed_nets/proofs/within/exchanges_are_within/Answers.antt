use Rattle.std.proofs.Common.{◌≤◌, arith, length}
use Rattle.design_text.specs.Exchanges.{exchange_view, records_in}
use Rattle.followed_nets.specs.SubjectViews.{subject_view}
use Rattle.followed_nets.proofs.WithinLemmas.{in_the_end, next_of, one_more}
use Rattle.followed_nets.proofs.within.exchanges_are_within.Goals as goal

pub exchange_is_within-requires : goal.exchange_is_within-requires
exchange_is_within-requires g c =
    let i = c.loop-place.invariant.0 in
    let next = next_of c.args.text.now.pieces.table.slots i.0 (records_in c.args.text.now) c.args.made.now.exchanges c.loop-place.place (exchange_view c.in-Some.exchange) c.in-Some.ensures i.1 in
    (i.0, next.0, next.1)

pub loop-place-preserved : goal.loop-place-preserved
loop-place-preserved g c =
    let slots = c.args.text.now.pieces.table.slots in
    let last = records_in c.args.text.now in
    let all = c.args.made.now.exchanges in
    let x = exchange_view c.in-Some.exchange in
    let i = c.loop-place.invariant.0 in
    let next = next_of slots i.0 last all c.loop-place.place x c.in-Some.ensures i.1 in
    let stays = one_more c.args.nets.now (subject_view c.args.subject) slots c.apart_on_and_on.ensures c.agree_on_and_on.ensures all last c.loop-place.place x c.in-Some.ensures
    (λ old new common exchange. c.in_ok-exchange_is_within.ensures old new common exchange c.if-not-branch.false)
    c.loop-place.invariant.1 in
    ((next.0, next.2), stays)

pub returns : goal.returns
returns g c =
    let done : length c.args.made.now.exchanges ≤ c.loop-place.place = omega (arith, c.loop-place-test.false, c.len-place-end.ensures) in
    λ old common made within.
    in_the_end c.args.nets.now (subject_view c.args.subject) c.args.text.now.pieces.table.slots c.args.made.now.exchanges (records_in c.args.text.now) c.loop-place.place done c.loop-place.invariant.1 old common made

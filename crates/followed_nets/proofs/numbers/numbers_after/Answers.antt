use Rattle.std.proofs.Common.{◌≤◌, arith, length}
use Rattle.design_text.specs.Exchanges.{exchange_view, records_in}
use Rattle.followed_nets.proofs.NumberLemmas.{all_exchanged, none_exchanged, one_more_exchanged}
use Rattle.followed_nets.proofs.WithinLemmas.{next_of}
use Rattle.followed_nets.proofs.numbers.numbers_after.Goals as goal

pub loop-place-init : goal.loop-place-init
loop-place-init g c =
    let slots = c.args.text.now.pieces.table.slots in
    (c.requires, none_exchanged slots c.args.made.now.exchanges (records_in c.args.text.now) c.args.numbers.now c.in_ok-after.after.items c.in_ok-after.ensures.items)

pub after_exchange-requires : goal.after_exchange-requires
after_exchange-requires g c =
    let i = c.loop-place.invariant.0 in
    let next = next_of c.args.text.now.pieces.table.slots i.0 (records_in c.args.text.now) c.args.made.now.exchanges c.loop-place.place (exchange_view c.in-Some.exchange) c.in-Some.ensures i.1 in
    (i.0, next.0, next.1)

pub loop-place-preserved : goal.loop-place-preserved
loop-place-preserved g c =
    let slots = c.args.text.now.pieces.table.slots in
    let last = records_in c.args.text.now in
    let all = c.args.made.now.exchanges in
    let x = exchange_view c.in-Some.exchange in
    let i = c.loop-place.invariant.0 in
    let next = next_of slots i.0 last all c.loop-place.place x c.in-Some.ensures i.1 in
    let stays = one_more_exchanged slots all last c.loop-place.place x c.args.numbers.now c.loop-place.after.items c.in-Some-2.next.items c.in-Some.ensures
    (λ old new exchange are. rw (c.in-Some-2.is) at (c.in_ok-next.ensures old new exchange (rw (c.deref.ensures.value) are)))
    c.loop-place.invariant.1 in
    ((next.0, next.2), stays)

pub returns : goal.returns
returns g c =
    let done : length c.args.made.now.exchanges ≤ c.loop-place.place = omega (arith, c.loop-place-test.false, c.len-place-end.ensures) in
    λ old made are. all_exchanged c.args.text.now.pieces.table.slots c.args.made.now.exchanges (records_in c.args.text.now) c.loop-place.place c.args.numbers.now c.loop-place.after.items done c.loop-place.invariant.1 old made are

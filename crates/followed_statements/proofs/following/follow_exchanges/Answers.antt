use Rattle.std.proofs.Common.{◌≤◌, arith, length, subst, sym}
use Rattle.design_text.specs.DesignTexts.{design_of}
use Rattle.design_text.specs.Exchanges.{exchange_view, records_in}
use Rattle.followed_statements.specs.Following.{AreKeptBy, said}
use Rattle.followed_statements.proofs.ExchangeLemmas.{all_made, next_of}
use Rattle.followed_statements.proofs.following.follow_exchanges.Goals as goal

pub follow_exchange-requires : goal.follow_exchange-requires
follow_exchange-requires g c =
    let i = c.loop-place.invariant in
    let next = next_of c.args.text.now.pieces.table.slots i.0 (records_in c.args.text.now) c.args.made.now.exchanges c.loop-place.place (exchange_view c.in-Some.exchange) c.in-Some.ensures i.1 in
    (i.0, next.0, next.1, i.2)

pub loop-place-preserved : goal.loop-place-preserved
loop-place-preserved g c =
    let i = c.loop-place.invariant in
    let next = next_of c.args.text.now.pieces.table.slots i.0 (records_in c.args.text.now) c.args.made.now.exchanges c.loop-place.place (exchange_view c.in-Some.exchange) c.in-Some.ensures i.1 in
    (next.0, next.2, rw (c.in-Some-2.is) at (c.in_ok-lines.ensures i.0 next.0 next.1 i.2))

pub returns : goal.returns
returns g c =
    let i = c.loop-place.invariant in
    let last : length c.args.made.now.exchanges ≤ c.loop-place.place = omega (arith, c.loop-place-test.false, c.len-place-end.ensures) in
    let same = all_made c.args.text.now.pieces.table.slots i.0 (records_in c.args.text.now) c.args.made.now.exchanges c.loop-place.place last i.1 in
    subst (λ rs. AreKeptBy c.args.library.now (design_of c.args.text.now) (said rs) c.loop-place.kept) (sym same) i.2

use Rattle.std.proofs.Common.{◌≤◌, arith, length}
use Rattle.std.specs.Option.{option_map}
use Rattle.design_text.specs.Exchanges.{exchange_view, records_in}
use Rattle.followed_statements.specs.Seen.{ShowAllBut}
use Rattle.followed_statements.proofs.ExchangeLemmas.{in_the_end, next_of, none_yet, one_more}
use Rattle.followed_statements.proofs.SeenLemmas.{seen_chain, seen_themselves}
use Rattle.followed_statements.proofs.seeing.shows_all_but.Goals as goal

pub loop-place-init : goal.loop-place-init
loop-place-init g c =
    let component = option_map (λ x. x.now) c.args.component in
    ((c.requires.0, c.requires.1), none_yet (ShowAllBut component) c.args.text.now.pieces.table.slots (seen_themselves component) c.args.made.now.exchanges (records_in c.args.text.now))

pub exchange_shows_all_but-requires : goal.exchange_shows_all_but-requires
exchange_shows_all_but-requires g c =
    let i = c.loop-place.invariant.0 in
    let next = next_of c.args.text.now.pieces.table.slots i.0 (records_in c.args.text.now) c.args.made.now.exchanges c.loop-place.place (exchange_view c.in-Some.exchange) c.in-Some.ensures i.1 in
    (i.0, next.0, next.1)

pub loop-place-preserved : goal.loop-place-preserved
loop-place-preserved g c =
    let slots = c.args.text.now.pieces.table.slots in
    let last = records_in c.args.text.now in
    let all = c.args.made.now.exchanges in
    let x = exchange_view c.in-Some.exchange in
    let component = option_map (λ y. y.now) c.args.component in
    let i = c.loop-place.invariant.0 in
    let next = next_of slots i.0 last all c.loop-place.place x c.in-Some.ensures i.1 in
    let holds = one_more (ShowAllBut component) slots (seen_chain component) all last c.loop-place.place x c.in-Some.ensures (λ old new exchange. c.in_ok-exchange_shows_all_but.ensures old new exchange c.if-not-branch.false) c.loop-place.invariant.1 in
    ((next.0, next.2), holds)

pub returns : goal.returns
returns g c =
    let done : length c.args.made.now.exchanges ≤ c.loop-place.place = omega (arith, c.loop-place-test.false, c.len-place-end.ensures) in
    λ old made same.
    in_the_end (ShowAllBut (option_map (λ x. x.now) c.args.component)) c.args.text.now.pieces.table.slots c.args.made.now.exchanges (records_in c.args.text.now) c.loop-place.place done c.loop-place.invariant.1 old made

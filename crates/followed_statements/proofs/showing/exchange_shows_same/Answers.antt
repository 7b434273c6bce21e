use Rattle.std.proofs.Common.{map}
use Rattle.def_reader.specs.StatementViews.{record_view}
use Rattle.design_text.specs.Exchanges.{exchange_view}
use Rattle.followed_statements.specs.Following.{ShowSame}
use Rattle.followed_statements.proofs.ExchangeLemmas.{kept}
use Rattle.followed_statements.proofs.ShowLemmas.{exchange_shows}
use Rattle.followed_statements.proofs.showing.exchange_shows_same.Goals as goal

pub returns : goal.returns
returns g c = λ old new exchange same.
    let slots = c.args.text.now.pieces.table.slots in
    let read : ShowSame (map record_view c.in_ok-went.went.items) (map record_view c.in_ok-came.came.items) = rw (c.deref.ensures.value, c.deref-2.ensures.value) at (c.all_show_same.ensures same) in
    let shows : ShowSame (kept slots c.args.exchange.went.now) (kept slots c.args.exchange.came.now) = rw (c.in_ok-went.ensures, c.in_ok-came.ensures) at read in
    exchange_shows slots old new (exchange_view c.args.exchange) exchange shows

use Rattle.std.proofs.Common.{◌≡◌, ◌∙◌, false, List, map, ap, sym}
use Rattle.std.specs.List.{list_any}
use Rattle.def_reader.specs.StatementViews.{record_view}
use Rattle.def_reader.specs.declared.statement.Statement.{Statement}
use Rattle.design_text.specs.Exchanges.{exchange_view}
use Rattle.followed_statements.specs.Places.{is_of_places}
use Rattle.followed_statements.proofs.ExchangeLemmas.{kept}
use Rattle.followed_statements.proofs.PlaceLemmas.{exchange_leaves, none_where}
use Rattle.followed_statements.proofs.places.exchange_leaves_places.Goals as goal

pub returns : goal.returns
returns g c = λ old new exchange leaves.
    let slots = c.args.text.now.pieces.table.slots in
    let any = λ (some : List Statement). list_any is_of_places (map record_view some) in
    let went : list_any is_of_places (kept slots c.args.exchange.went.now) ≡ false =
    sym (c.are_some_of_places.ensures ∙ ap any c.deref.ensures.value ∙ ap (list_any is_of_places) c.in_ok-went.ensures) ∙ c.if-are_some_of_places.false
    in
    let came : list_any is_of_places (kept slots c.args.exchange.came.now) ≡ false =
    sym (c.are_some_of_places-2.ensures ∙ ap any c.deref-2.ensures.value ∙ ap (list_any is_of_places) c.in_ok-came.ensures) ∙ none_where _ leaves
    in
    exchange_leaves c.components_are_exchanged.ensures slots old new (exchange_view c.args.exchange) exchange went came

use Rattle.std.proofs.Common.{◌≡◌, ◌∙◌, false, List, filter, map, ap, sym}
use Rattle.std.specs.List.{list_any}
use Rattle.std.specs.Option.{option_map}
use Rattle.def_reader.specs.StatementViews.{record_view}
use Rattle.def_reader.specs.declared.statement.Statement.{Statement}
use Rattle.design_text.specs.Exchanges.{exchange_view}
use Rattle.followed_statements.specs.Following.{ShowSame}
use Rattle.followed_statements.specs.Seen.{is_of_net, is_seen_record}
use Rattle.followed_statements.proofs.ExchangeLemmas.{kept}
use Rattle.followed_statements.proofs.ReferenceLemmas.{no_nets_list}
use Rattle.followed_statements.proofs.SeenLemmas.{exchange_seen, seen_is}
use Rattle.followed_statements.proofs.seeing.exchange_shows_all_but.Goals as goal

pub returns : goal.returns
returns g c = λ old new exchange same.
    let slots = c.args.text.now.pieces.table.slots in
    let component = option_map (λ x. x.now) c.args.component in
    let test = is_seen_record component in
    let went = kept slots c.args.exchange.went.now in
    let came = kept slots c.args.exchange.came.now in
    let any = λ (some : List Statement). list_any is_of_net (map record_view some) in
    let none_went : list_any is_of_net went ≡ false =
    sym (c.have_nets.ensures ∙ ap any c.deref.ensures.value ∙ ap (list_any is_of_net) c.in_ok-went.ensures) ∙ c.if-have_nets.false
    in
    let none_came : list_any is_of_net came ≡ false =
    sym (c.have_nets-2.ensures ∙ ap any c.deref-2.ensures.value ∙ ap (list_any is_of_net) c.in_ok-came.ensures) ∙ c.if-have_nets-2.false
    in
    let read : ShowSame (filter test (map record_view c.in_ok-went.went.items)) (filter test (map record_view c.in_ok-came.came.items)) =
    rw (c.deref-3.ensures.value, c.deref-4.ensures.value) at (c.seen_show_same.ensures same)
    in
    let shows : ShowSame (filter test went) (filter test came) = rw (c.in_ok-went.ensures, c.in_ok-came.ensures) at read in
    exchange_seen component slots old new (exchange_view c.args.exchange) exchange (sym (seen_is component went) ∙ shows.shown ∙ seen_is component came) (no_nets_list component went none_went ∙ sym (no_nets_list component came none_came))

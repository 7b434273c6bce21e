use Rattle.std.proofs.Common.{rules, ◌≡◌, ◌∙◌, ◌∷◌, [], Bool, Some, ap, sym, true}
use Rattle.std.specs.Option.{option_map}
use Rattle.std.proofs.lemmas.Result.{IfOk-weaker}
use Rattle.design_model.specs.Views.{rectangle_of}
use Rattle.reports.specs.Answers.{box_in, length_in}
use Rattle.reports.specs.Exchanges.{NetExchanged}
use Rattle.followed_nets.specs.StarHeadViews.{pins_view}
use Rattle.followed_measures.specs.Bounds.{BoxFollows, boxes_in}
use Rattle.followed_measures.specs.ExchangedNets.{NetsExchanged}
use Rattle.followed_measures.proofs.StarLemmas.{star_told}
use Rattle.followed_measures.proofs.exchanging.exchange_star.Goals as goal

pub returns : goal.returns
returns g c = λ library old new component awaits.
    let before = pins_view c.args.before.now in
    let after = pins_view c.args.after.now in
    let a = c.args.reports.now in
    let was = option_map rectangle_of c.in-Some-net_box.old in
    let bounds = option_map rectangle_of c.in-Some-bounds_after.bounds in
    let same : after.name ≡ before.name = search rules in
    let length_is : length_in a before.name ≡ Some c.in-Some.length = search rules in
    let box_is : box_in a before.name ≡ Some was = rw (c.bytes-name.ensures) at (sym c.net_box.ensures ∙ ap (option_map (option_map rectangle_of)) c.in-Some-net_box.is) in
    let follows : BoxFollows (boxes_in before.shapes) (boxes_in after.shapes) was bounds = search rules in
    let exchanged = rw (c.bytes-name.ensures, c.deref-3.ensures.value, c.deref-4.ensures.value) at c.exchange_one.ensures in
    IfOk-weaker c.exchange_one.result
    (λ (b : Bool). b ≡ true → NetExchanged before.name c.in-Some.length c.in-Some.length before.shapes after.shapes bounds a c.exchange_one.new.reports)
    (λ (b : Bool). b ≡ true → NetsExchanged library old new (before.name ∷ []) a c.exchange_one.new.reports)
    (λ b e is. star_told library old new component c.lengths_are_told.ensures c.one_component_exchanged.ensures c.entries_tell.ensures before after a awaits same c.in-Some.length was bounds length_is box_is follows c.exchange_one.new.reports (e is))
    exchanged

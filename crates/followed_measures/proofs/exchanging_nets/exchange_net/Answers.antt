use Rattle.std.proofs.Common.{◌≡◌, ◌∙◌, ◌∷◌, [], Bool, true}
use Rattle.std.proofs.lemmas.Result.{IfOk-weaker}
use Rattle.design_text.specs.DesignTexts.{design_of}
use Rattle.reports.specs.Exchanges.{NetExchanged}
use Rattle.followed_measures.specs.ExchangedNets.{NetsExchanged}
use Rattle.followed_measures.specs.ToldViews.{net_view}
use Rattle.followed_measures.proofs.LoopLemmas.{exchange_of_net}
use Rattle.followed_measures.proofs.exchanging_nets.exchange_net.Goals as goal

pub returns : goal.returns
returns g c = λ old was.
    let library = c.args.library.now in
    let new = design_of c.args.text.now in
    let before = net_view c.args.before.now in
    let after = net_view c.in-Some.after in
    let told = rw (c.in-Some.is) at c.in_ok-after.ensures.told in
    let named = rw (c.in-Some.is) at c.in_ok-after.ensures.name ∙ c.bytes.ensures in
    let exchanged = rw (c.bytes-2.ensures, c.deref.ensures.value, c.deref-2.ensures.value) at c.exchange_one.ensures in
    IfOk-weaker c.exchange_one.result
    (λ (b : Bool). b ≡ true → NetExchanged before.name before.net_length after.net_length before.shapes after.shapes after.bounds c.args.reports.now c.exchange_one.new.reports)
    (λ (b : Bool). b ≡ true → NetsExchanged library old new (before.name ∷ []) c.args.reports.now c.exchange_one.new.reports)
    (λ b e is. exchange_of_net library old new before after c.args.reports.now c.exchange_one.new.reports was told named (e is))
    exchanged

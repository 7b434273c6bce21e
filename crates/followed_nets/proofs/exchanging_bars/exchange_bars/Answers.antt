use Rattle.std.proofs.Common.{◌∙◌, ◌++◌, ap, map}
use Rattle.std.proofs.lemmas.List.{map-append}
use Rattle.net_touches.specs.Barriers.{barrier_view}
use Rattle.followed_nets.proofs.exchanging_bars.exchange_bars.Goals as goal

pub returns : goal.returns
returns g c = λ there.
    let all = ap (map barrier_view) c.in_ok-append.ensures.items ∙ map-append barrier_view c.args.bars.now.items c.args.changed.come.items in
    rw (c.deref.ensures.value, all) at (c.take_bars.ensures there)

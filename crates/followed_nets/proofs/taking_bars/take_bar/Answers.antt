use Rattle.net_touches.specs.Barriers.{barrier_view}
use Rattle.kept_nets.proofs.Taken.{swapped_like}
use Rattle.followed_nets.proofs.taking_bars.take_bar.Goals as goal

pub returns-clause-taken : goal.returns-clause-taken
returns-clause-taken g c = λ yes.
    let out = c.swap_remove in
    let there = rw c.deref.ensures.value at c.in-Some.ensures.there in
    swapped_like barrier_view c.args.bars.now.items out.new.self.items c.in-Some.place out.result (barrier_view c.args.bar.now) there out.ensures.value out.ensures.items

use Rattle.std.proofs.Common.{rules, ◌≡◌, ◌∷◌, []}
use Rattle.net_lists.specs.NetViews.{net_view}
use Rattle.named_shapes.proofs.Gathered.{all_gathered, next_gathered}
use Rattle.named_shapes.proofs.shapes.NamedShapes.of.Goals as goal

pub loop-net-preserved : goal.loop-net-preserved
loop-net-preserved g c =
    let stay = c.in_ok-place.ensures.stay in
    let step : c.loop-net.left ≡ net_view c.in-Some.net ∷ c.next.new.self = search rules in
    let now = rw (step) at c.loop-net.invariant in
    let place = rw (stay.1) at c.in_ok-place.ensures.place in
    rw (stay.1, c.in_ok-push_placed.ensures) (next_gathered c.loop-net.names stay.0 c.loop-net.shapes.items c.in-Some.net c.next.new.self c.args.nets.now c.in_ok-place.place place c.in-Some.net.whole now)

pub returns : goal.returns
returns g c =
    let none : c.loop-net.left ≡ [] = search rules in
    (all_gathered c.loop-net.names c.loop-net.shapes.items c.loop-net.left c.args.nets.now c.in_ok-placed.placed none c.loop-net.invariant (rw (c.deref.ensures.value) at c.in_ok-placed.ensures)).0

pub invariant_of-result : goal.invariant_of-result
invariant_of-result g c =
    let none : c.loop-net.left ≡ [] = search rules in
    (all_gathered c.loop-net.names c.loop-net.shapes.items c.loop-net.left c.args.nets.now c.in_ok-placed.placed none c.loop-net.invariant (rw (c.deref.ensures.value) at c.in_ok-placed.ensures)).1

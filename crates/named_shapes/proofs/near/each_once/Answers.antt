use Rattle.std.proofs.Common.{rules, ◌≤◌, length}
use Rattle.named_shapes.proofs.TouchingLemmas.{next_none, none_left}
use Rattle.named_shapes.proofs.near.each_once.Goals as goal

pub loop-place-preserved : goal.loop-place-preserved
loop-place-preserved g c = λ test none rest.
    let both = c.in_ok-add_place.ensures test none in
    c.loop-place.invariant test both.0 (next_none test c.args.places.now c.loop-place.place-index c.loop-place-test.true both.1 rest)

pub returns : goal.returns
returns g c = λ test none.
    let past : length c.args.places.now ≤ c.loop-place.place-index = search rules in
    c.loop-place.invariant test none (none_left test c.args.places.now c.loop-place.place-index past)

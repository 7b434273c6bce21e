use Rattle.std.proofs.Common.{◌≤◌}
use Rattle.place_checks.proofs.HeightLemmas.{one_taller, first_at_most, second_at_most}
use Rattle.place_checks.proofs.sweep.greatest_height.Goals as goal

pub loop-b-preserved : goal.loop-b-preserved
loop-b-preserved c =
    let m = c.max-tallest.ensures in
    let more : c.loop-b.tallest ≤ c.max-tallest.result = rw m (first_at_most c.loop-b.tallest c.height.result) in
    let enough : c.height.result ≤ c.max-tallest.result = rw m (second_at_most c.loop-b.tallest c.height.result) in
    one_taller c.args.boxes.now c.loop-b.b-index c.b-item.result _ _ _ c.loop-b-test.true c.b-item.is c.height.ensures more enough c.loop-b.invariant

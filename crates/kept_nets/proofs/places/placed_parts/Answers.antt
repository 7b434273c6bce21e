use Rattle.std.proofs.Common.{◌<◌, ◌≤◌, arith, length}
use Rattle.std.proofs.lemmas.Result.{IfOk-weaker}
use Rattle.kept_nets.proofs.PlacedParts.{all_placed, next_placed}
use Rattle.kept_nets.proofs.places.placed_parts.Goals as goal

pub loop-place-preserved : goal.loop-place-preserved
loop-place-preserved g c =
    let below : c.loop-place.place < length c.args.parts.now = omega arith in
    next_placed c.args.parts.now c.loop-place.place c.index-parts-place.result c.loop-place.shapes.items c.push_placed.new.pushed.items below c.index-parts-place.is (rw c.as_slice.ensures.value at c.in_ok-push_placed.ensures) c.loop-place.invariant

pub returns : goal.returns
returns g c =
    let past : length c.args.parts.now ≤ c.loop-place.place = omega arith in
    IfOk-weaker c.of.result _ _ (λ s h. all_placed c.args.parts.now c.loop-place.place c.loop-place.shapes.items s past c.loop-place.invariant (rw c.deref.ensures.value at h)) c.of.ensures

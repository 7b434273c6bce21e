use Rattle.std.proofs.Common.{◌≡◌, ◌<◌, ℕ, ◌∷◌, length, rules}
use Rattle.shape_pairs.proofs.RunLemmas.{all_later, next_place, places_end}
use Rattle.shape_pairs.proofs.runs.for_pairs_with_later.Goals as goal

pub loop-place-preserved : goal.loop-place-preserved
loop-place-preserved g c =
    let is : c.loop-place.rest.now ≡ c.in-Some.place.now ∷ c.in-Some.others.now = search rules in
    record {
      callable = c.loop-place.invariant.callable;
      placed = all_later (λ (place : ℕ). place < length c.args.items.now) c.in-Some.place.now c.in-Some.others.now c.loop-place.rest.now is c.loop-place.invariant.placed;
      rest = λ other last k. c.loop-place.invariant.rest other last
          (next_place c.args.grid.now c.args.items.now other c.args.bin _ c.loop-place.acc c.tell_if-acc.result last c.args.first.now c.item_at-second.result.now
          c.loop-place.rest.now c.in-Some.place.now c.in-Some.others.now is (c.item_at-second.ensures other) (rw c.meet_at_home.ensures at c.tell_if-acc.ensures) k);
    }

pub returns : goal.returns
returns g c = λ other.
    let none : length c.loop-place.rest.now ≡ 0 = search rules in
    c.loop-place.invariant.rest other c.loop-place.acc
    (places_end c.args.grid.now c.args.items.now other c.args.bin _ c.loop-place.acc c.args.first.now c.loop-place.rest.now none)

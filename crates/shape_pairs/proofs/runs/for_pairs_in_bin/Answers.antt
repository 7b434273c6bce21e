use Rattle.std.proofs.Common.{◌≡◌, ◌<◌, ℕ, ◌∷◌, length, rules}
use Rattle.shape_pairs.proofs.RunLemmas.{all_later, next_first}
use Rattle.shape_pairs.proofs.runs.for_pairs_in_bin.Goals as goal

pub for_pairs_with_later-acc-requires-clause-placed : goal.for_pairs_with_later-acc-requires-clause-placed
for_pairs_with_later-acc-requires-clause-placed g c =
    all_later (λ (place : ℕ). place < length c.args.items.now) c.in-Some.place.now c.in-Some.later.now c.loop-place.rest.now (search rules) c.loop-place.invariant.placed

pub loop-place-preserved : goal.loop-place-preserved
loop-place-preserved g c =
    let is : c.loop-place.rest.now ≡ c.in-Some.place.now ∷ c.in-Some.later.now = search rules in
    record {
      callable = c.loop-place.invariant.callable;
      placed = all_later (λ (place : ℕ). place < length c.args.items.now) c.in-Some.place.now c.in-Some.later.now c.loop-place.rest.now is c.loop-place.invariant.placed;
      rest = λ other last k. c.loop-place.invariant.rest other last
          (next_first c.args.grid.now c.args.items.now other c.args.bin _ c.loop-place.acc c.for_pairs_with_later-acc.result last c.item_at-first.result.now
          c.loop-place.rest.now c.in-Some.place.now c.in-Some.later.now is (c.item_at-first.ensures other) (c.for_pairs_with_later-acc.ensures other) k);
    }

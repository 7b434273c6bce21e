use Rattle.std.proofs.Common.{◌∙◌, ◌<◌, rules}
use Rattle.shape_pairs.specs.Grids.{bin_count}
use Rattle.shape_pairs.proofs.MeetingSums.{blank}
use Rattle.shape_pairs.proofs.RunLemmas.{bins_end, next_bin, placed_in}
use Rattle.shape_pairs.proofs.runs.for_pairs_in_bins.Goals as goal

pub places_in-places-requires-clause-rise : goal.places_in-places-requires-clause-rise
places_in-places-requires-clause-rise g c = c.requires.bins.rise c.loop-bin.bin (search rules)

pub places_in-places-requires-clause-within : goal.places_in-places-requires-clause-within
places_in-places-requires-clause-within g c = c.requires.bins.within c.loop-bin.bin (search rules)

pub for_pairs_in_bin-acc-requires-clause-placed : goal.for_pairs_in_bin-acc-requires-clause-placed
for_pairs_in_bin-acc-requires-clause-placed g c =
    let low : c.loop-bin.bin < bin_count c.args.grid.now = search rules in
    placed_in c.args.grid.now c.args.items.now blank c.loop-bin.bin c.places_in-places.result.now (c.places_in-places.ensures ∙ c.requires.bins.held c.loop-bin.bin low blank)

pub loop-bin-preserved : goal.loop-bin-preserved
loop-bin-preserved g c =
    let low : c.loop-bin.bin < bin_count c.args.grid.now = search rules in
    record {
      callable = c.loop-bin.invariant.callable;
      rest = λ last k. c.loop-bin.invariant.rest last
          (next_bin c.args.grid.now c.args.items.now blank _ c.loop-bin.acc c.for_pairs_in_bin-acc.result last c.loop-bin.bin low c.places_in-places.result.now
          (c.places_in-places.ensures ∙ c.requires.bins.held c.loop-bin.bin low blank) (c.for_pairs_in_bin-acc.ensures blank) k);
    }

pub returns : goal.returns
returns g c = c.loop-bin.invariant.rest c.loop-bin.acc (bins_end c.args.grid.now c.args.items.now _ c.loop-bin.acc c.loop-bin.bin (search rules))

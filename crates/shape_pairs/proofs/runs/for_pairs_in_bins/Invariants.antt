use Rattle.std.specs.List.{flat_map}
use Rattle.shape_pairs.specs.Pairs.{CallsLead}
use Rattle.shape_pairs.specs.Grids.{bin_count}
use Rattle.shape_pairs.proofs.MeetingSums.{told_in, told_pairs}
use Rattle.shape_pairs.proofs.PushLemmas.{up_to}
use Rattle.shape_pairs.proofs.runs.for_pairs_in_bins.Given as goal

abbrev pub invariant-loop-bin : goal.invariant-loop-bin
invariant-loop-bin g l = record {
  callable : goal.F-IsAlwaysCallable g l.f;
  rest : (last : _) → CallsLead (goal.F-post g l.f) l.acc (flat_map (told_in l.grid l.items) (up_to l.bin (bin_count l.grid))) last
      → CallsLead (goal.F-post g l.f) l.fn.acc (told_pairs l.grid l.items) last;
}

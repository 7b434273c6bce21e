use Rattle.shape_pairs.proofs.MeetingSums.{told_are_meeting, told_pairs}
use Rattle.shape_pairs.proofs.pairs.for_pairs_by_bins.Goals as goal

pub returns : goal.returns
returns g c = (
  told_pairs c.over-grid.result c.args.items.now,
  told_are_meeting c.over-grid.result c.args.items.now,
  c.for_pairs_in_bins.ensures,
)

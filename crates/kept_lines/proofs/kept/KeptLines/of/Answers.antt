use Rattle.kept_lines.proofs.PlaceLemmas.{sorted_lines}
use Rattle.kept_lines.proofs.kept.KeptLines.of.Goals as goal

pub invariant_of-result : goal.invariant_of-result
invariant_of-result g c = sorted_lines _ _ c.args.lines c.into_vec.ensures c.into_sorted.ensures.texts c.into_sorted.ensures.kinds

use Rattle.place_kernels.proofs.PatternLaws.{starless_matches_itself}
use Rattle.place_kernels.proofs.laws.starless_matches_itself.Goals as goal

pub returns : goal.returns
returns c = starless_matches_itself

use Rattle.place_kernels.proofs.PatternLaws.{star_matches_all}
use Rattle.place_kernels.proofs.laws.star_matches_all.Goals as goal

pub returns : goal.returns
returns c = star_matches_all

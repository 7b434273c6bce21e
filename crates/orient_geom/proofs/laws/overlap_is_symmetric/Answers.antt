use Rattle.orient_geom.proofs.Overlapping.{overlap_is_symmetric}
use Rattle.orient_geom.proofs.laws.overlap_is_symmetric.Goals as goal

pub returns : goal.returns
returns c = overlap_is_symmetric

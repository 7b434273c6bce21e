use Rattle.orient_geom.proofs.SharedPoints.{common_is_symmetric}
use Rattle.orient_geom.proofs.laws.common_is_symmetric.Goals as goal

pub returns : goal.returns
returns c = common_is_symmetric

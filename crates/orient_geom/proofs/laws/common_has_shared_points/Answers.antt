use Rattle.orient_geom.proofs.SharedPoints.{common_has_shared_points}
use Rattle.orient_geom.proofs.laws.common_has_shared_points.Goals as goal

pub returns : goal.returns
returns c = common_has_shared_points

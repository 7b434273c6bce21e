use Rattle.orient_geom.proofs.SharedPoints.{none_is_apart}
use Rattle.orient_geom.proofs.laws.none_is_apart.Goals as goal

pub returns : goal.returns
returns c = none_is_apart

use Rattle.orient_geom.proofs.Turning.{turning_back}
use Rattle.orient_geom.proofs.laws.turning_back.Goals as goal

pub returns : goal.returns
returns c = turning_back

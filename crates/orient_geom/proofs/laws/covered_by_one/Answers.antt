use Rattle.orient_geom.proofs.CoverLaws.{covered_by_one}
use Rattle.orient_geom.proofs.laws.covered_by_one.Goals as goal

pub returns : goal.returns
returns c = covered_by_one

use Rattle.orient_geom.proofs.CoverLaws.{covered_without_area}
use Rattle.orient_geom.proofs.laws.covered_without_area.Goals as goal

pub returns : goal.returns
returns c = covered_without_area

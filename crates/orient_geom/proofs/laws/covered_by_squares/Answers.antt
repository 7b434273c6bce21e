use Rattle.orient_geom.proofs.CoverLaws.{covered_by_squares}
use Rattle.orient_geom.proofs.laws.covered_by_squares.Goals as goal

pub returns : goal.returns
returns c = covered_by_squares

use Rattle.orient_geom.proofs.Overlapping.{overlap_is_shared_area}
use Rattle.orient_geom.proofs.laws.overlap_is_shared_area.Goals as goal

pub returns : goal.returns
returns c = overlap_is_shared_area

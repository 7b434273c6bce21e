use Rattle.shape_index.proofs.TileFloors.{met_is_near}
use Rattle.shape_index.proofs.laws.met_is_near.Goals as goal

pub returns : goal.returns
returns c = met_is_near

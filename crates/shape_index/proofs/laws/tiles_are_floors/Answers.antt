use Rattle.shape_index.proofs.TileFloors.{tiles_are_floors}
use Rattle.shape_index.proofs.laws.tiles_are_floors.Goals as goal

pub returns : goal.returns
returns c = tiles_are_floors

use Rattle.shape_index.proofs.TileFloors.{sizes_are_least}
use Rattle.shape_index.proofs.laws.sizes_are_least.Goals as goal

pub returns : goal.returns
returns c = sizes_are_least

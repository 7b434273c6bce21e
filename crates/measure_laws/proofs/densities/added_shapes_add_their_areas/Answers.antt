use Rattle.measure_laws.proofs.CommonAreas.{added_shapes_add_their_areas}
use Rattle.measure_laws.proofs.densities.added_shapes_add_their_areas.Goals as goal

pub returns : goal.returns
returns c = added_shapes_add_their_areas

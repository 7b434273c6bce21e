use Rattle.unit_numbers.proofs.Unique.{nearest_is_unique}
use Rattle.unit_numbers.proofs.laws.nearest_is_unique.Goals as goal

pub returns : goal.returns
returns c = nearest_is_unique

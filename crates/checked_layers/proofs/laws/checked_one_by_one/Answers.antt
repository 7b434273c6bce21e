use Rattle.checked_layers.proofs.LayerLemmas.{checked_one_by_one}
use Rattle.checked_layers.proofs.laws.checked_one_by_one.Goals as goal

pub returns : goal.returns
returns c = checked_one_by_one

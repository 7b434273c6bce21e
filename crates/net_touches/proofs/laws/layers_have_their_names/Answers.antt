use Rattle.net_touches.proofs.NameLemmas.{layers_have_their_names}
use Rattle.net_touches.proofs.laws.layers_have_their_names.Goals as goal

pub returns : goal.returns
returns c = layers_have_their_names

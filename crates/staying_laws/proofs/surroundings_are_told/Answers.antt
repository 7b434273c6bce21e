use Rattle.staying_laws.proofs.ComponentExchanges.{surroundings_are_told}
use Rattle.staying_laws.proofs.surroundings_are_told.Goals as goal

pub returns : goal.returns
returns c = surroundings_are_told

use Rattle.edit_laws.proofs.FoundComponents.{components_are_found}
use Rattle.edit_laws.proofs.components.components_are_found.Goals as goal

pub returns : goal.returns
returns c = components_are_found

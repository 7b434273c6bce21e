use Rattle.edit_laws.proofs.StatementsChanged.{same_keys_are_once}
use Rattle.edit_laws.proofs.statements.same_keys_are_once.Goals as goal

pub returns : goal.returns
returns c = same_keys_are_once

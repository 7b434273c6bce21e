use Rattle.edit_laws.proofs.UnplacedWords.{unplacings_are_changes}
use Rattle.edit_laws.proofs.placing.unplacings_are_changes.Goals as goal

pub returns : goal.returns
returns c = unplacings_are_changes c.spaced_are_tokens.ensures

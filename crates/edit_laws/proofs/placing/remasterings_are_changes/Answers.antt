use Rattle.edit_laws.proofs.RemasteredWords.{remasterings_are_changes}
use Rattle.edit_laws.proofs.placing.remasterings_are_changes.Goals as goal

pub returns : goal.returns
returns c = remasterings_are_changes c.spaced_are_tokens.ensures

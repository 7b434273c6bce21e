use Rattle.edit_laws.proofs.OneEdited.{one_is_edited}
use Rattle.edit_laws.proofs.entries.one_is_edited.Goals as goal

pub returns : goal.returns
returns c = one_is_edited

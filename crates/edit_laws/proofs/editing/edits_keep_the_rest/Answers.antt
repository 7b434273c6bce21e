use Rattle.edit_laws.proofs.EditedTexts.{edits_keep_the_rest}
use Rattle.edit_laws.proofs.editing.edits_keep_the_rest.Goals as goal

pub returns : goal.returns
returns c = edits_keep_the_rest c.edits_stand_in_order.ensures

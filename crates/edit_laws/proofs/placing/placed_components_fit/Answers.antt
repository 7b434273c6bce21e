use Rattle.edit_laws.proofs.PlacedFits.{placed_components_fit}
use Rattle.edit_laws.proofs.placing.placed_components_fit.Goals as goal

pub returns : goal.returns
returns c = placed_components_fit c.printed_numbers_are_words.ensures c.printed_numbers_are_read.ensures

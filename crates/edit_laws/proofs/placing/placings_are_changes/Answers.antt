use Rattle.edit_laws.proofs.PlacedWords.{placings_are_changes}
use Rattle.edit_laws.proofs.placing.placings_are_changes.Goals as goal

pub returns : goal.returns
returns c = placings_are_changes c.placements_are_tokens.ensures c.placed_components_fit.ensures

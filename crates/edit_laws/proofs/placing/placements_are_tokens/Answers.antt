use Rattle.edit_laws.proofs.PlacedTokens.{placements_are_tokens}
use Rattle.edit_laws.proofs.placing.placements_are_tokens.Goals as goal

pub returns : goal.returns
returns c = placements_are_tokens c.spaced_are_tokens.ensures c.printed_numbers_are_words.ensures

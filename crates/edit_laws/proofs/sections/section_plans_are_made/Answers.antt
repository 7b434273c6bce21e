use Rattle.edit_laws.proofs.SectionPlans.{section_plans_are_made}
use Rattle.edit_laws.proofs.sections.section_plans_are_made.Goals as goal

pub returns : goal.returns
returns c = section_plans_are_made c.spaced_are_tokens.ensures c.tokens_are_put.ensures c.printed_numbers_are_words.ensures c.printed_numbers_are_read.ensures c.components_are_found.ensures c.entries_are_written.ensures

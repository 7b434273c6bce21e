use Rattle.count_laws.proofs.SectionCounts.{counts_are_by_section}
use Rattle.count_laws.proofs.counts_are_by_section.Goals as goal

pub returns : goal.returns
returns c = counts_are_by_section

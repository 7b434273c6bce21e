use Rattle.agreement_laws.proofs.NameLemmas.{same_unknown}
use Rattle.agreement_laws.proofs.same_names_same_lines.Goals as goal

pub returns : goal.returns
returns c = same_unknown

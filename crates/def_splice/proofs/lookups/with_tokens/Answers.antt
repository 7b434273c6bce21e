use Rattle.lefdef_tokens.specs.Views.{pieces_of}
use Rattle.def_splice.proofs.lookups.with_tokens.Goals as goal

pub returns-clause-lent : goal.returns-clause-lent
returns-clause-lent c = λ found. let at = rw c.in-Some.is at found in c.in-Some-entry.ensures.lent (pieces_of c.in-Some.tokens.tokens) at

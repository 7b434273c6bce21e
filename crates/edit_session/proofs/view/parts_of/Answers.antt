use Rattle.lefdef_tokens.specs.Views.{pieces_of}
use Rattle.edit_session.proofs.view.parts_of.Goals as goal

pub returns-clause-lent : goal.returns-clause-lent
returns-clause-lent c =
    let read = c.in-Ok-Some.read in
    let cuts = rw c.in-Ok-Some.field-0-is at c.in-Ok-Some.ensures.cuts in
    let lent = rw c.in-Ok-Some.field-0-is at c.in-Ok-Some.ensures.lent in
    (pieces_of read.tokens, _, cuts, c.in-Some.ensures.lent (pieces_of read.tokens) lent)

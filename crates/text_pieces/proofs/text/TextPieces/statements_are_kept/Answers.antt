use Rattle.text_pieces.proofs.KeptPieces.{says_kept}
use Rattle.text_pieces.proofs.text.TextPieces.statements_are_kept.Goals as goal

pub returns : goal.returns
returns g c = rw (← c.self.view_is) (says_kept c.texts_are_read.ensures c.chains_lead.ensures _ c.self.invariant)

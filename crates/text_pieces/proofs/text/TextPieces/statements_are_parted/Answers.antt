use Rattle.text_pieces.proofs.KeptPieces.{parted_so}
use Rattle.text_pieces.proofs.text.TextPieces.statements_are_parted.Goals as goal

pub returns : goal.returns
returns g c = λ base other b.
    rw (← c.self.view_is) (parted_so c.texts_are_read.ensures c.chains_lead.ensures _ _ base other c.self.invariant (rw (← c.self.view_is) at b))

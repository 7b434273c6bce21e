use Rattle.text_pieces.proofs.Opened.{too_long}
use Rattle.text_pieces.proofs.text.TextPieces.open_telling.Goals as goal

pub returns-then-text-gt-MAX_TEXT-clause-opens : goal.returns-then-text-gt-MAX_TEXT-clause-opens
returns-then-text-gt-MAX_TEXT-clause-opens g c = too_long c.args.block.now (rw c.as_slice-text.ensures at c.if-text-gt-MAX_TEXT.true)

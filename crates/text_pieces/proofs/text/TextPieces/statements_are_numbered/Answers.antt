use Rattle.text_pieces.proofs.PlacedPieces.{as_many, reads_as}
use Rattle.text_pieces.proofs.text.TextPieces.statements_are_numbered.Goals as goal

pub returns : goal.returns
returns g c = rw (← c.self.view_is) (record {
  reads = reads_as c.texts_are_read.ensures _ c.self.invariant;
  all = as_many c.texts_are_read.ensures _ c.self.invariant;
  once = c.self.invariant.table.once;
})

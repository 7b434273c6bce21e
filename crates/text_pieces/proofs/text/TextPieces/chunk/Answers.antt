use Rattle.text_pieces.proofs.KeptPieces.{pieces_at}
use Rattle.text_pieces.proofs.text.TextPieces.chunk.Goals as goal

pub returns-clause-numbers : goal.returns-clause-numbers
returns-clause-numbers g c = rw (← c.self.view_is) c.ids_in.ensures

pub returns-clause-pieces : goal.returns-clause-pieces
returns-clause-pieces g c =
    let table = c.args.self.now.table in
    rw (returns-clause-numbers g c) (pieces_at table.slots table.chunks c.args.place c.statements_are_kept.ensures.pieces)

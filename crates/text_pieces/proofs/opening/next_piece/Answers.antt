use Rattle.text_pieces.proofs.NextPieces.{next_is}
use Rattle.text_pieces.proofs.opening.next_piece.Goals as goal

pub returns : goal.returns
returns c =
    let e = c.read_statement.ensures in
    next_is c.statements_are_pieces.ensures c.statements_end_before_blanks.ensures c.args.mode c.args.text.now c.args.pos c.requires c.read_statement.result e.reads e.cuts e.span

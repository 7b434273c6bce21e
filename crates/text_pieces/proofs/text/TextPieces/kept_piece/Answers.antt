use Rattle.std.proofs.Common.{refl, sym}
use Rattle.text_pieces.specs.Tables.{kept}
use Rattle.text_pieces.proofs.Shown.{slot_is}
use Rattle.text_pieces.proofs.text.TextPieces.kept_piece.Goals as goal

pub returns : goal.returns
returns g c =
    let held = slot_is c.self.inside.table.pieces.slots c.args.id _ (sym c.in-Some.ensures) in
    (kept c.in-Some.piece.now, rw (← c.self.view_is) held, c.as_slice.ensures, refl)

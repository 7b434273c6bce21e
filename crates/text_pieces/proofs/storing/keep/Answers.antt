use Rattle.std.proofs.Common.{refl, ap}
use Rattle.text_pieces.proofs.StoredPieces.{stores_is}
use Rattle.text_pieces.proofs.storing.keep.Goals as goal

pub returns-in_default-push-clause-stays : goal.returns-in_default-push-clause-stays
returns-in_default-push-clause-stays g c =
    let i = c.insert_reserved in
    (stores_is c.args.pieces.now c.reserve.new.self i.new.self i.result c.args.piece c.args.piece.bytes (ap (λ s. s.slots) c.reserve.ensures.rest_kept) i.ensures.was_vacant i.ensures.updates refl).stays

pub returns-clause-kept : goal.returns-clause-kept
returns-clause-kept g c =
    let i = c.insert_reserved in
    (c.in-Ok.ensures.items, stores_is c.args.pieces.now c.reserve.new.self i.new.self i.result c.args.piece c.args.piece.bytes (ap (λ s. s.slots) c.reserve.ensures.rest_kept) i.ensures.was_vacant i.ensures.updates refl)

pub returns-clause-stays : goal.returns-clause-stays
returns-clause-stays g c =
    let i = c.insert_reserved in
    (stores_is c.args.pieces.now c.reserve.new.self i.new.self i.result c.args.piece c.args.piece.bytes (ap (λ s. s.slots) c.reserve.ensures.rest_kept) i.ensures.was_vacant i.ensures.updates refl).stays

use Rattle.std.proofs.Common.{◌∙◌, sym, ap, map}
use Rattle.std.specs.Prelude.{option_map}
use Rattle.text_pieces.specs.Chunks.{shown}
use Rattle.text_pieces.specs.Tables.{Kept, ids_of, kept, table_of}
use Rattle.text_pieces.proofs.Found.{chunks_held, start_held}
use Rattle.text_pieces.proofs.LentPieces.{lent, not_lent}
use Rattle.text_pieces.proofs.Shown.{is_there, kept_is}
use Rattle.text_pieces.proofs.text.TextPieces.piece.Goals as goal

pub returns-in_default : goal.returns-in_default
returns-in_default g c =
    rw (← c.self.view_is) (not_lent c.texts_are_read.ensures c.chains_lead.ensures _ c.self.invariant c.args.id (sym c.in_default.ensures))

pub index-piece-requires : goal.index-piece-requires
index-piece-requires g c =
    let slots = map (option_map kept) c.self.inside.table.pieces.slots in
    let ids = ids_of (table_of c.self.inside.table) in
    let held = start_held slots 0 c.in-Some.at c.args.id ids (chunks_held slots 0 (map shown c.self.inside.table.chunks.items) c.self.invariant.table.chunks) (sym c.in-Some.ensures) in
    is_there c.self.inside.table.pieces.slots c.args.id _ held

pub returns : goal.returns
returns g c =
    let own = kept_is c.self.inside.table.pieces.slots c.args.id _ c.index-piece.ensures in
    let bytes = c.as_slice.ensures ∙ sym (ap (λ (k : Kept). k.bytes) own) in
    let mode = sym (ap (λ (k : Kept). k.mode) own) in
    rw (← c.self.view_is, bytes, mode) (lent c.texts_are_read.ensures c.chains_lead.ensures _ c.self.invariant c.args.id c.in-Some.at (sym c.in-Some.ensures))

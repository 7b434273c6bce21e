use Rattle.std.proofs.Common.{◌∙◌, ap}
use Rattle.text_pieces.specs.KeptRecords.{record_of}
use Rattle.text_pieces.specs.Tables.{Kept, kept_at}
use Rattle.design_text.proofs.Pushing.{is_held, kept_is}
use Rattle.design_text.proofs.statements.kept_statement.Goals as goal

pub unreachable-requires : goal.unreachable-requires
unreachable-requires g c = is_held c.args.pieces.now.table.slots c.args.id c.requires c.in_default.ensures

pub read_piece-requires : goal.read_piece-requires
read_piece-requires g c =
    let slots = c.args.pieces.now.table.slots in
    let p = c.requires in
    let e = c.in-Some.ensures in
    let own = kept_is slots c.args.id e.0 p e.1 in
    let bytes = e.2 ∙ ap (λ (k : Kept). k.bytes) own in
    let mode = e.3 ∙ ap (λ (k : Kept). k.mode) own in
    (record_of (kept_at slots c.args.id), p.after, rw (bytes, mode) p.piece)

pub returns : goal.returns
returns g c =
    let slots = c.args.pieces.now.table.slots in
    let p = c.requires in
    let e = c.in-Some.ensures in
    let own = kept_is slots c.args.id e.0 p e.1 in
    let bytes = e.2 ∙ ap (λ (k : Kept). k.bytes) own in
    let mode = e.3 ∙ ap (λ (k : Kept). k.mode) own in
    c.read_piece.ensures.says (record_of (kept_at slots c.args.id)) p.after (rw (bytes, mode) p.piece)

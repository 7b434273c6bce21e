use Rattle.std.proofs.Common.{◌≡◌, ◌-◌, [], ◌∷◌, refl, sym, ap, length, map, arith, length-append}
use Rattle.std.specs.Prelude.{option_map}
use Rattle.def_reader.specs.StatementViews.{record_view}
use Rattle.text_pieces.specs.Tables.{kept}
use Rattle.text_pieces.proofs.ReadPieces.{read_fault}
use Rattle.text_pieces.proofs.Telling.{told_empty, told_more}
use Rattle.text_pieces.proofs.opening.read_chunk.Goals as goal

pub statements-init : goal.statements-init
statements-init g c =
    let none : c.args.from - c.args.from ≡ 0 = omega arith in
    let long = ap length c.new-ids.ensures.items in (
      omega (arith, long),
      c.requires,
      λ begun front n t.
          rw c.new-ids.ensures.items (told_empty g.T.Told.says begun c.args.told.now c.args.block.now front (map (option_map kept) c.args.pieces.now.slots) c.args.first c.args.from (c.args.from - c.args.from) none t),
    )

pub statements-preserved : goal.statements-preserved
statements-preserved g c =
    let s = c.statements in
    let i = s.invariant in
    let text = c.args.block.now in
    let old = map (option_map kept) s.pieces.slots in
    let new = map (option_map kept) c.keep.new.pieces.slots in
    let read = c.in-Some.read in
    let piece = rw (c.as_slice-text.ensures, c.in-Some.is) at c.in-Ok.ensures in
    let id = c.in-Ok-keep.id in
    let stored = c.in-Ok-keep.ensures.kept in
    let long = ap length stored.0 in (
      omega (arith, i.0, piece.0, long, length-append s.ids.items (id ∷ [])),
      piece.1,
      λ begun front n t.
          rw stored.0 (told_more g.T.Told.says begun s.told c.tell.new.self text front s.ids.items old new s.mode c.args.from s.pos c.chains_join.ensures c.chains_lead.ensures (i.2 begun front n t) (omega (arith, i.0)) read.end read.place (record_view read.statement) _ id piece refl c.in-Ok-part.ensures (sym n) stored.1 c.in_ok-tell.ensures),
    )

pub returns-in-Err-clause-reads : goal.returns-in-Err-clause-reads
returns-in-Err-clause-reads g c = λ begun front n t.
    let s = c.statements in
    let told = s.invariant.2 begun front n t in
    read_fault c.args.block.now _ told.recs s.mode s.pos told.opened.read c.pieces_are_read.ensures c.in-Err.fault (rw c.as_slice-text.ensures at c.in-Err.ensures)

use Rattle.std.proofs.Common.{map, arith}
use Rattle.std.specs.Prelude.{option_map}
use Rattle.text_pieces.specs.Chunks.{shown}
use Rattle.text_pieces.specs.Tables.{kept}
use Rattle.text_pieces.proofs.NewWeights.{home_in}
use Rattle.text_pieces.proofs.table.PieceTable.first_near.Goals as goal

pub overflow_add-from-then-pos-from : goal.overflow_add-from-then-pos-from
overflow_add-from-then-pos-from g c = omega (arith, c.bytes_in-len.ensures.fits, c.requires.start)

pub overflow_add-from : goal.overflow_add-from
overflow_add-from g c = omega (arith, c.bytes_in-len.ensures.fits, c.requires.start)

pub first_from_end-requires-clause-kept : goal.first_from_end-requires-clause-kept
first_from_end-requires-clause-kept g c =
    let slots = map (option_map kept) c.args.self.now.pieces.slots in
    let cs = map shown c.args.self.now.chunks.items in
    rw c.ids_in-ids.ensures (home_in slots cs c.args.chunk c.requires.table c.requires.within)

pub first_from_end-requires-clause-whole : goal.first_from_end-requires-clause-whole
first_from_end-requires-clause-whole g c = rw c.ids_in-ids.ensures (omega (arith, c.bytes_in-len.ensures.is))

pub first_in-requires-clause-kept : goal.first_in-requires-clause-kept
first_in-requires-clause-kept g c =
    let slots = map (option_map kept) c.args.self.now.pieces.slots in
    let cs = map shown c.args.self.now.chunks.items in
    rw c.ids_in-ids.ensures (home_in slots cs c.args.chunk c.requires.table c.requires.within)

pub first_in-requires-clause-fits : goal.first_in-requires-clause-fits
first_in-requires-clause-fits g c = rw c.ids_in-ids.ensures (omega (arith, c.bytes_in-len.ensures.is, c.bytes_in-len.ensures.fits, c.requires.start))

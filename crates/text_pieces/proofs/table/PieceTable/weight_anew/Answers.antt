use Rattle.std.proofs.Common.{◌+◌, ◌-◌, length, map, arith}
use Rattle.std.specs.Prelude.{option_map}
use Rattle.design_model.specs.declared.TheConstants.{MAX_TEXT}
use Rattle.text_pieces.specs.Chunks.{ids_at, shown}
use Rattle.text_pieces.specs.Tables.{kept}
use Rattle.text_pieces.proofs.NewWeights.{fits_in, home_in, home_part, part_fits, part_within, weights_are}
use Rattle.text_pieces.proofs.table.PieceTable.weight_anew.Goals as goal

pub weight-less-requires-clause-kept : goal.weight-less-requires-clause-kept
weight-less-requires-clause-kept g c =
    let slots = map (option_map kept) c.args.self.now.pieces.slots in
    let cs = map shown c.args.self.now.chunks.items in
    let k = c.args.chunk in
    let i = c.args.place in
    rw c.ids_in-old.ensures (home_part slots k (ids_at cs k) i (i + c.args.gone - i) (home_in slots cs k c.requires.table c.requires.within))

pub weight-less-requires-clause-fits : goal.weight-less-requires-clause-fits
weight-less-requires-clause-fits g c =
    let slots = map (option_map kept) c.args.self.now.pieces.slots in
    let cs = map shown c.args.self.now.chunks.items in
    let k = c.args.chunk in
    let i = c.args.place in
    rw c.ids_in-old.ensures (part_fits slots (ids_at cs k) i (i + c.args.gone - i) MAX_TEXT (fits_in slots cs k c.requires.table c.requires.within))

pub weight-more-requires-clause-kept : goal.weight-more-requires-clause-kept
weight-more-requires-clause-kept g c =
    let slots = map (option_map kept) c.args.self.now.pieces.slots in
    let cs = map shown c.args.self.now.chunks.items in
    let new = c.args.ids.now in
    let i = c.args.place in
    rw c.ids_in-old.ensures (home_part slots c.args.chunk new i (length new - (length (ids_at cs c.args.chunk) - (i + c.args.gone)) - i) c.requires.kept)

pub weight-more-requires-clause-fits : goal.weight-more-requires-clause-fits
weight-more-requires-clause-fits g c =
    let slots = map (option_map kept) c.args.self.now.pieces.slots in
    let cs = map shown c.args.self.now.chunks.items in
    let new = c.args.ids.now in
    let i = c.args.place in
    rw c.ids_in-old.ensures (part_fits slots new i (length new - (length (ids_at cs c.args.chunk) - (i + c.args.gone)) - i) MAX_TEXT c.requires.fits)

pub overflow_sub-result : goal.overflow_sub-result
overflow_sub-result g c =
    let slots = map (option_map kept) c.args.self.now.pieces.slots in
    let cs = map shown c.args.self.now.chunks.items in
    let i = c.args.place in
    let less = rw c.ids_in-old.ensures at c.weight-less.ensures in
    omega (arith, less, part_within slots (ids_at cs c.args.chunk) i (i + c.args.gone - i), c.bytes_in.ensures.is)

pub overflow_add-result : goal.overflow_add-result
overflow_add-result g c =
    let slots = map (option_map kept) c.args.self.now.pieces.slots in
    let cs = map shown c.args.self.now.chunks.items in
    let own = ids_at cs c.args.chunk in
    let i = c.args.place in
    let less = rw c.ids_in-old.ensures at c.weight-less.ensures in
    let more = rw c.ids_in-old.ensures at c.weight-more.ensures in
    let sum = weights_are slots own c.args.ids.now i c.args.gone c.requires.is c.requires.inside in
    omega (arith, less, more, sum, part_within slots own i (i + c.args.gone - i), c.bytes_in.ensures.is, c.requires.fits)

pub returns : goal.returns
returns g c =
    let slots = map (option_map kept) c.args.self.now.pieces.slots in
    let cs = map shown c.args.self.now.chunks.items in
    let own = ids_at cs c.args.chunk in
    let i = c.args.place in
    let less = rw c.ids_in-old.ensures at c.weight-less.ensures in
    let more = rw c.ids_in-old.ensures at c.weight-more.ensures in
    let sum = weights_are slots own c.args.ids.now i c.args.gone c.requires.is c.requires.inside in
    omega (arith, less, more, sum, part_within slots own i (i + c.args.gone - i), c.bytes_in.ensures.is)

use Rattle.std.proofs.Common.{◌-◌, ◌∙◌, List, length, map, take, ap, arith}
use Rattle.std.specs.Prelude.{option_map}
use Rattle.std.proofs.lemmas.List.{take_rest}
use Rattle.design_model.specs.declared.TheConstants.{MAX_TEXT}
use Rattle.design_model.specs.declared.identifier.StmtId.{StmtId}
use Rattle.text_pieces.specs.Chunks.{ids_at, shown}
use Rattle.text_pieces.specs.Tables.{kept, weight}
use Rattle.text_pieces.proofs.NewWeights.{fits_in, front_fits, home_in, home_part, part_fits, part_within, weight_parts}
use Rattle.text_pieces.proofs.Slots.{home_take}
use Rattle.text_pieces.proofs.table.PieceTable.weight_to.Goals as goal

pub weight-requires-clause-kept : goal.weight-requires-clause-kept
weight-requires-clause-kept g c =
    let slots = map (option_map kept) c.args.self.now.pieces.slots in
    let cs = map shown c.args.self.now.chunks.items in
    let own = ids_at cs c.args.chunk in
    rw c.ids_in-ids.ensures (home_part slots c.args.chunk own c.args.place (length own - c.args.place) (home_in slots cs c.args.chunk c.requires.table c.requires.within))

pub weight-requires-clause-fits : goal.weight-requires-clause-fits
weight-requires-clause-fits g c =
    let slots = map (option_map kept) c.args.self.now.pieces.slots in
    let cs = map shown c.args.self.now.chunks.items in
    let own = ids_at cs c.args.chunk in
    rw c.ids_in-ids.ensures (part_fits slots own c.args.place (length own - c.args.place) MAX_TEXT (fits_in slots cs c.args.chunk c.requires.table c.requires.within))

pub overflow_sub-result : goal.overflow_sub-result
overflow_sub-result g c =
    let slots = map (option_map kept) c.args.self.now.pieces.slots in
    let cs = map shown c.args.self.now.chunks.items in
    let own = ids_at cs c.args.chunk in
    let part = rw c.ids_in-ids.ensures at c.weight.ensures in
    omega (arith, part, part_within slots own c.args.place (length own - c.args.place), c.bytes_in.ensures.is)

pub returns-then-place-ids : goal.returns-then-place-ids
returns-then-place-ids g c =
    let slots = map (option_map kept) c.args.self.now.pieces.slots in
    let cs = map shown c.args.self.now.chunks.items in
    let own = ids_at cs c.args.chunk in
    let part = rw c.ids_in-ids.ensures at c.weight.ensures in
    let rest = ap (weight slots) (take_rest own c.args.place) in
    omega (arith, part, rest, weight_parts slots own c.args.place, c.bytes_in.ensures.is)

pub weight-requires-2-clause-kept : goal.weight-requires-2-clause-kept
weight-requires-2-clause-kept g c =
    let slots = map (option_map kept) c.args.self.now.pieces.slots in
    let cs = map shown c.args.self.now.chunks.items in
    rw c.ids_in-ids.ensures (home_take slots c.args.chunk (ids_at cs c.args.chunk) c.args.place (home_in slots cs c.args.chunk c.requires.table c.requires.within))

pub weight-requires-2-clause-fits : goal.weight-requires-2-clause-fits
weight-requires-2-clause-fits g c =
    let slots = map (option_map kept) c.args.self.now.pieces.slots in
    let cs = map shown c.args.self.now.chunks.items in
    rw c.ids_in-ids.ensures (front_fits slots (ids_at cs c.args.chunk) c.args.place MAX_TEXT (fits_in slots cs c.args.chunk c.requires.table c.requires.within))

pub returns : goal.returns
returns g c =
    let slots = map (option_map kept) c.args.self.now.pieces.slots in
    c.weight-2.ensures ∙ ap (λ (l : List StmtId). weight slots (take c.args.place l)) c.ids_in-ids.ensures

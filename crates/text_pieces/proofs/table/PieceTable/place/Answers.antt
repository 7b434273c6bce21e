use Rattle.std.proofs.Common.{◌∙◌, Some, sym, ap, map}
use Rattle.std.specs.Prelude.{option_map}
use Rattle.text_pieces.specs.Chunks.{shown}
use Rattle.text_pieces.specs.Tables.{kept, kept_or}
use Rattle.text_pieces.proofs.Shown.{slot_is}
use Rattle.text_pieces.proofs.Slots.{unheld, absent_own, some_in}
use Rattle.text_pieces.proofs.Ids.{stands_in_all}
use Rattle.text_pieces.proofs.table.PieceTable.place.Goals as goal

pub returns-in_default : goal.returns-in_default
returns-in_default g c =
    let slots = map (option_map kept) c.args.self.now.pieces.slots in
    let cs = map shown c.args.self.now.chunks.items in
    (unheld slots 0 cs c.args.id c.requires.chunks (slot_is c.args.self.now.pieces.slots c.args.id _ (sym c.in_default.ensures)))

pub returns-in_default-place_in : goal.returns-in_default-place_in
returns-in_default-place_in g c =
    let slots = map (option_map kept) c.args.self.now.pieces.slots in
    let cs = map shown c.args.self.now.chunks.items in
    let held = slot_is c.args.self.now.pieces.slots c.args.id _ (sym c.in-Some.ensures) in
    (absent_own slots cs c.args.id _ c.requires.chunks held (rw c.ids_in.ensures at c.in_default-place_in.ensures))

pub returns : goal.returns
returns g c =
    let cs = map shown c.args.self.now.chunks.items in
    let k = c.in-Some.piece.now.chunk in
    let held = slot_is c.args.self.now.pieces.slots c.args.id _ (sym c.in-Some.ensures) in
    let there = rw c.ids_in.ensures at c.in-Some-place_in.ensures in
    let within = some_in cs k c.in-Some-place_in.place there.0 in
    record {
      within = within;
      inside = there.0;
      is = stands_in_all cs k c.args.id _ _ within there.1;
      held = held ∙ ap (λ p. Some (kept_or p)) (sym held);
    }

use Rattle.std.proofs.Common.{◌∙◌, sym, map}
use Rattle.text_pieces.specs.Chunks.{shown}
use Rattle.text_pieces.proofs.Ids.{none_after}
use Rattle.text_pieces.proofs.Neighbours.{next_inside, next_outside}
use Rattle.text_pieces.proofs.table.PieceTable.next.Goals as goal

pub returns-in_default : goal.returns-in_default
returns-in_default g c = sym (none_after c.args.id _ c.in_default.ensures)

pub returns-then-place-ids : goal.returns-then-place-ids
returns-then-place-ids g c =
    let cs = map shown c.args.self.now.chunks.items in
    next_inside cs c.in-Some.chunk c.in-Some.place c.args.id c.in-Some.ensures.is c.requires.once _ _ c.ids_in-ids.ensures c.if-place-ids.true

pub returns : goal.returns
returns g c =
    let cs = map shown c.args.self.now.chunks.items in
    c.first_from.ensures ∙ next_outside cs c.in-Some.chunk c.in-Some.place c.args.id c.in-Some.ensures.is c.requires.once _ c.ids_in-ids.ensures c.if-place-ids.false

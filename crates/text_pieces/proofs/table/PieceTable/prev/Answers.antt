use Rattle.std.proofs.Common.{◌∙◌, sym, map}
use Rattle.text_pieces.specs.Chunks.{shown}
use Rattle.text_pieces.proofs.Ids.{absent_none_before}
use Rattle.text_pieces.proofs.Neighbours.{prev_inside, prev_outside}
use Rattle.text_pieces.proofs.table.PieceTable.prev.Goals as goal

pub returns-in_default : goal.returns-in_default
returns-in_default g c = sym (absent_none_before c.args.id _ c.in_default.ensures)

pub returns-then-place-gt0 : goal.returns-then-place-gt0
returns-then-place-gt0 g c =
    let s = c.in-Some.ensures in
    let cs = map shown c.args.self.now.chunks.items in
    prev_inside cs c.in-Some.chunk c.in-Some.place c.args.id s.is c.requires.once _ _ c.ids_in.ensures c.if-place-gt0.true s.inside

pub returns : goal.returns
returns g c =
    let cs = map shown c.args.self.now.chunks.items in
    c.last_before.ensures ∙ prev_outside cs c.in-Some.chunk c.in-Some.place c.args.id c.in-Some.ensures.is c.requires.once c.if-place-gt0.false

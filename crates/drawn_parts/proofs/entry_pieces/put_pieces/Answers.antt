use Rattle.std.proofs.Common.{◌≡◌, [], rules}
use Rattle.measure_rules.specs.Lengths.{piece_length}
use Rattle.wire_reading.specs.EntryLeft.{entry_left}
use Rattle.drawn_parts.proofs.LengthLemmas.{all_added}
use Rattle.drawn_parts.proofs.entry_pieces.put_pieces.Goals as goal

pub returns-clause-length : goal.returns-clause-length
returns-clause-length g c =
    let left = entry_left g.W.MadeWires.pieces g.I.PathItems.items g.R.WiringMakings.rules g.S.LayerShapes.shapes c.loop-piece.piece-iterator in
    let none : left ≡ [] = search rules in
    rw (← c.into_iter-piece-iterator.ensures.into_iter_gives) (all_added piece_length _ _ left none c.loop-piece.invariant.below c.loop-piece.invariant.length)

use Rattle.wire_reading.proofs.EntrySteps.{Going}
use Rattle.wire_reading.proofs.entry_pieces.EntryPiecesIterator.next.Given as goal

abbrev pub invariant-loop-piece : goal.invariant-loop-piece
invariant-loop-piece g l =
    Going g.W.MadeWires.pieces g.I.PathItems.items g.R.WiringMakings.rules g.S.LayerShapes.shapes l.fn.self l.piece l.self

abbrev pub decreases-loop-piece : goal.decreases-loop-piece
decreases-loop-piece g l = g.W.MadeWires.count l.self.wires

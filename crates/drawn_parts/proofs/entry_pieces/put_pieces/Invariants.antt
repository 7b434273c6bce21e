use Rattle.std.proofs.Common.{◌≡◌, ◌+◌, ◌<◌, ◌^◌}
use Rattle.std.specs.List.{sum_by}
use Rattle.measure_rules.specs.Lengths.{piece_length}
use Rattle.wire_reading.specs.EntryLeft.{entry_left}
use Rattle.drawn_parts.specs.Drawing.{IsReady, drawing, put_pieces}
use Rattle.drawn_parts.specs.DrawnLengths.{capped}
use Rattle.drawn_parts.proofs.entry_pieces.put_pieces.Given as goal

abbrev pub invariant-loop-piece : goal.invariant-loop-piece
invariant-loop-piece g l = record {
  ready : IsReady l.walk l.nets;
  same : l.walk.layers ≡ l.initial.walk.layers;
  so_far :
      put_pieces l.initial.walk.layers.layers (entry_left g.W.MadeWires.pieces g.I.PathItems.items g.R.WiringMakings.rules g.S.LayerShapes.shapes l.piece-iterator) (drawing l.walk l.nets)
      ≡ put_pieces l.initial.walk.layers.layers (entry_left g.W.MadeWires.pieces g.I.PathItems.items g.R.WiringMakings.rules g.S.LayerShapes.shapes l.initial.piece-iterator) (drawing l.initial.walk l.initial.nets);
  below : l.length < 2 ^ 64;
  length :
      capped (l.length + sum_by piece_length (entry_left g.W.MadeWires.pieces g.I.PathItems.items g.R.WiringMakings.rules g.S.LayerShapes.shapes l.piece-iterator))
      ≡ capped (sum_by piece_length (entry_left g.W.MadeWires.pieces g.I.PathItems.items g.R.WiringMakings.rules g.S.LayerShapes.shapes l.initial.piece-iterator));
}

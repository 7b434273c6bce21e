use Rattle.std.proofs.Common.{◌≡◌, flat_map}
use Rattle.connection_rules.specs.NetParts.{clause_pieces}
use Rattle.design_rules.specs.Boxes.{scale}
use Rattle.wire_parts.specs.SpecialNetViews.{special_clauses_of}
use Rattle.drawn_parts.specs.Drawing.{IsReady, drawing, put_pieces}
use Rattle.drawn_parts.proofs.clauses.put_clauses.Given as goal

abbrev pub invariant-loop-clause : goal.invariant-loop-clause
invariant-loop-clause g l = record {
  ready : IsReady l.walk l.nets;
  same : l.walk.layers ≡ l.initial.walk.layers;
  so_far :
      put_pieces l.initial.walk.layers.layers (flat_map (clause_pieces l.wires.library l.wires.design (scale l.wires.design)) (special_clauses_of l.left)) (drawing l.walk l.nets)
      ≡ put_pieces l.initial.walk.layers.layers (flat_map (clause_pieces l.wires.library l.wires.design (scale l.wires.design)) (special_clauses_of l.fn.clauses)) (drawing l.initial.walk l.initial.nets);
}

abbrev pub decreases-loop-clause : goal.decreases-loop-clause
decreases-loop-clause g l = l.left.most

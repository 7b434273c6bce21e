-- The pieces that are left of a path.
use Rattle.std.specs.Prelude.{List}
use Rattle.wire_rules.specs.Paths.{PathItem, Piece, WireMakings}
use Rattle.wire_rules.specs.ViaShapes.{NamedShape}
use Rattle.wire_shapes.specs.PathLeft.{left_of}
use Rattle.wire_shapes.specs.declared.pieces.PathPieces.{PathPieces}

abbrev pub pieces_left : {I R S : Type 0} → (I → List PathItem) → (R → WireMakings) → (S → List NamedShape) → PathPieces I R S → List Piece
pieces_left items rules shapes p = left_of items rules shapes p.walk

-- The pieces that are left of an entry.
use Rattle.std.specs.Prelude.{List, [], ◌++◌, Option, Some, None}
use Rattle.wire_rules.specs.Paths.{PathItem, Piece, WireMakings}
use Rattle.wire_rules.specs.ViaShapes.{NamedShape}
use Rattle.wire_shapes.specs.PiecesLeft.{pieces_left}
use Rattle.wire_shapes.specs.declared.pieces.PathPieces.{PathPieces}
use Rattle.wire_reading.specs.declared.entry_pieces.EntryPieces.{EntryPieces}

-- those of the present wire, if there is one
abbrev pub wire_left : {I R S : Type 0} → (I → List PathItem) → (R → WireMakings) → (S → List NamedShape) → Option (PathPieces I R S) → List Piece
wire_left items rules shapes None = []
wire_left items rules shapes (Some p) = pieces_left items rules shapes p

-- and those of the wires after it
abbrev pub entry_left : {W I R S : Type 0} → (W → List Piece) → (I → List PathItem) → (R → WireMakings) → (S → List NamedShape) → EntryPieces W I R S → List Piece
entry_left wires items rules shapes e = wire_left items rules shapes e.present ++ wires e.wires

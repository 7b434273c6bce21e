-- The pieces that are left of an entry, step by step.
use Rattle.std.proofs.Common.{◌≡◌, List, [], ◌++◌, Option}
use Rattle.std.specs.Prelude.{IfSome, IsNone}
use Rattle.wire_rules.specs.Paths.{PathItem, Piece, WireMakings}
use Rattle.wire_rules.specs.ViaShapes.{NamedShape}
use Rattle.wire_shapes.specs.PathLeft.{found_list}
use Rattle.wire_shapes.specs.PieceViews.{IsPieceNear}
use Rattle.wire_shapes.specs.declared.piece.Piece as code
use Rattle.wire_reading.specs.EntryLeft.{entry_left, wire_left}
use Rattle.wire_reading.specs.declared.entry_pieces.EntryPieces.{EntryPieces}

module _ {W I R S : Type 0} (wires : W → List Piece) (items : I → List PathItem) (rules : R → WireMakings) (shapes : S → List NamedShape) where
  -- where an entry is after some calls: what a call found comes first of what was left, and then what is left now
  pub record Going (old : EntryPieces W I R S) (found : Option code.Piece) (now : EntryPieces W I R S) : Type 0 where
    pub same : found_list found ++ entry_left wires items rules shapes now ≡ entry_left wires items rules shapes old
    pub done : IsNone found → wire_left items rules shapes now.present ≡ []
    pub near : IfSome found IsPieceNear

-- The pieces of a path in the program as those of the definitions.
use Rattle.std.specs.Prelude.{◌≡◌, List, [], ◌∷◌, Option, MatchOption}
use Rattle.design_model.specs.Geometry.{IsNearRectangle}
use Rattle.design_model.specs.Views.{rectangle_of}
use Rattle.wire_rules.specs.Paths.{Piece, segment, diagonal, rectangle, via_shape, unknown_via, via_off_layer}
use Rattle.wire_shapes.specs.RuleViews.{shape_view}
use Rattle.wire_shapes.specs.declared.piece.Piece as code
use Rattle.wire_shapes.specs.declared.piece.Piece.TheVariants as pieces

abbrev pub piece_view : code.Piece → Piece
piece_view (pieces.Segment shape length) = segment (shape_view shape) length
piece_view pieces.Diagonal = diagonal
piece_view (pieces.Rectangle shape) = rectangle (shape_view shape)
piece_view (pieces.ViaShape via at is_first shape) = via_shape via.now at is_first (shape_view shape)
piece_view (pieces.UnknownVia via) = unknown_via via.now
piece_view (pieces.ViaOffLayer via) = via_off_layer via.now

-- a piece's shape lies within plus or minus 2 ^ 61
abbrev pub IsPieceNear : code.Piece → Type 0
IsPieceNear (pieces.Segment shape length) = IsNearRectangle (rectangle_of shape.rect)
IsPieceNear (pieces.Rectangle shape) = IsNearRectangle (rectangle_of shape.rect)
IsPieceNear (pieces.ViaShape via at is_first shape) = IsNearRectangle (rectangle_of shape.rect)
IsPieceNear pieces.Diagonal = Unit {0}
IsPieceNear (pieces.UnknownVia via) = Unit {0}
IsPieceNear (pieces.ViaOffLayer via) = Unit {0}

-- a call gave the first of the pieces that were left, and the others are left; or none was left
abbrev pub GivesPiece : List Piece → Option code.Piece → List Piece → Type 0
GivesPiece old found new = MatchOption found ((old ≡ []) × (new ≡ [])) (λ p. (old ≡ piece_view p ∷ new) × IsPieceNear p)

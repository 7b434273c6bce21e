-- What is left of a path.
use Rattle.std.specs.Prelude.{◌≡◌, List, [], ◌∷◌, ◌++◌, Option, Some, None, IfSome}
use Rattle.wire_rules.specs.Paths.{PathItem, PathPlace, Piece, WireMakings, pieces_at, pieces_from, place_after}
use Rattle.wire_rules.specs.ViaShapes.{NamedShape}
use Rattle.wire_shapes.specs.ItemViews.{IsPast, IsPlace}
use Rattle.wire_shapes.specs.PieceViews.{piece_view}
use Rattle.wire_shapes.specs.ViaLeft.{IsViaInReach, via_left}
use Rattle.wire_shapes.specs.declared.path_walk.PathPlace as code_place
use Rattle.wire_shapes.specs.declared.path_walk.PathWalk.{PathWalk}
use Rattle.wire_shapes.specs.declared.piece.Piece as code_piece
use Rattle.wire_shapes.specs.declared.via_walk.ViaWalk.{ViaWalk}

abbrev pub place_view : code_place.PathPlace → PathPlace
place_view p = record { layer = p.layer.now; at = p.at; past = p.past }

-- what is left of a via, if the path uses one
abbrev pub via_part : {S : Type 0} → (S → List NamedShape) → Option (ViaWalk S) → List Piece
via_part shapes None = []
via_part shapes (Some w) = via_left shapes w

abbrev pub found_list : Option code_piece.Piece → List Piece
found_list None = []
found_list (Some p) = piece_view p ∷ []

-- no number of it is too large
pub record IsWalkInReach {I R S : Type 0} (w : PathWalk I R S) : Type 0 where
  pub at : IsPlace w.place.at
  pub past : IsPast w.place.past
  pub via : IfSome w.via IsViaInReach

module _ {I R S : Type 0} (items : I → List PathItem) (rules : R → WireMakings) (shapes : S → List NamedShape) where
  abbrev pub left_of : PathWalk I R S → List Piece
  left_of w = via_part shapes w.via ++ pieces_from (rules w.rules) (place_view w.place) (items w.items)

  -- a path went on with an item: it gave the item's first piece, if the item has any, and the others are left
  abbrev pub Enters : PathWalk I R S → PathItem → Option code_piece.Piece → PathWalk I R S → Type 0
  Enters old item found new =
      found_list found ++ left_of new ≡ pieces_at (rules old.rules) (place_view old.place) item ++ pieces_from (rules old.rules) (place_after (rules old.rules) (place_view old.place) item) (items old.items)

-- What is left of a via that a path uses.
use Rattle.std.specs.Prelude.{ℕ, Bool, List, [], ◌∷◌, ◌++◌, flat_map, if◌then◌else◌}
use Rattle.design_model.specs.declared.geometry.Point.{Point}
use Rattle.wire_rules.specs.Paths.{Piece, ViaUse, array_of, one_via, shapes_there, via_off_layer}
use Rattle.design_model.specs.Ranges.{IsPointWithin}
use Rattle.wire_rules.specs.ViaShapes.{NamedShape}
use Rattle.wire_shapes.specs.ItemViews.{via_use_view}
use Rattle.wire_shapes.specs.PlacesLeft.{IsInReach, places_left, reach}
use Rattle.wire_shapes.specs.declared.via_walk.ViaWalk.{ViaWalk}

-- the shapes of a via at each place of its array
abbrev pub array_shapes : List NamedShape → ViaUse → Point → List Piece
array_shapes shapes u at = flat_map (one_via shapes u) (array_of u at)

-- those that are left at a place, and all of them at each place after it
abbrev pub shapes_left : {S : Type 0} → (S → List NamedShape) → ViaWalk S → List Piece
shapes_left shapes w =
    shapes_there (via_use_view w.via) w.at w.is_first (shapes w.left) ++ flat_map (one_via (shapes w.all) (via_use_view w.via)) (places_left w.places)

abbrev pub note_if : List ℕ → Bool → List Piece
note_if name off = if off then via_off_layer name ∷ [] else []

abbrev pub note_left : {S : Type 0} → ViaWalk S → List Piece
note_left w = note_if w.via.name.now w.off_layer

abbrev pub via_left : {S : Type 0} → (S → List NamedShape) → ViaWalk S → List Piece
via_left shapes w = shapes_left shapes w ++ note_left w

-- no place of it is too far away
pub record IsViaInReach {S : Type 0} (w : ViaWalk S) : Type 0 where
  pub at : IsPointWithin (reach 0) w.at
  pub places : IsInReach w.places

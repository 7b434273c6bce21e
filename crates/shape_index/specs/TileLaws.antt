-- What sizes and tiles are.
use Rattle.std.specs.Prelude.{◌≡◌, ◌≤◌, ◌-◌, ◌/◌, ◌^◌, ℕ, IsTrue, ℤ, pos, neg_ℤ, ◌+ℤ◌, ◌≤ℤ◌, ◌<ℤ◌}
use Rattle.std.specs.Int.{IsNextPowerOfTwo, int_div_euclid}
use Rattle.design_model.specs.declared.geometry.Rect.{Rect}
use Rattle.design_model.specs.declared.identifier.LayerId.{LayerId}
use Rattle.design_model.specs.declared.identifier.ShapeId.{ShapeId}
use Rattle.shape_index.specs.declared.shape.Shape.{Shape}
use Rattle.shape_index.specs.Shapes.{is_met}
use Rattle.shape_index.specs.Tiles.{offset, least_size, is_near}

-- Up to 2 ^ 63 a size is the least power of two that isn't below the side.
abbrev pub SizesAreLeast : Type 0
SizesAreLeast = (side : ℕ) → side ≤ 2 ^ 63 → IsNextPowerOfTwo side (least_size side)

-- The tile of a coordinate of 64 bits is the floor of its division by the size, counted from the tile of the lowest one.
abbrev pub TilesAreFloors : Type 0
TilesAreFloors = (z : ℤ) (k : ℕ) → k ≤ 63 → neg_ℤ (pos (2 ^ 63)) ≤ℤ z → z <ℤ pos (2 ^ 63) → pos (offset z / 2 ^ k) ≡ int_div_euclid z (pos (2 ^ k)) +ℤ pos (2 ^ (63 - k))

-- A shape on a layer that meets a rectangle is near it.
abbrev pub MetIsNear : Type 0
MetIsNear = (layer : LayerId) (r : Rect) (e : ShapeId × Shape) → IsTrue (is_met layer r e) → IsTrue (is_near layer r e)

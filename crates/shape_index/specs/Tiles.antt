-- Tiles: squares of a size, laid from the lowest coordinate of 64 bits in x and in y.
use Rattle.std.specs.Prelude.{◌+◌, ◌-◌, ◌*◌, ◌/◌, ◌^◌, ℕ, zero, suc, min, max, ℤ, pos, negsuc, Bool, ◌&&◌, ◌==◌, nat_le, List, if◌then◌else◌, count_by}
use Rattle.design_model.specs.declared.geometry.Rect.{Rect}
use Rattle.design_model.specs.declared.identifier.LayerId.{LayerId}
use Rattle.design_model.specs.declared.identifier.ShapeId.{ShapeId}
use Rattle.shape_index.specs.declared.shape.Shape.{Shape}
use Rattle.shape_index.specs.declared.tile.TileKey.{TileKey}

-- how far a coordinate is from the lowest of 64 bits
abbrev pub offset : ℤ → ℕ
offset (pos a) = min (a + 2 ^ 63) (2 ^ 64 - 1)
offset (negsuc a) = 2 ^ 63 - (a + 1)

-- the longer of width and height
abbrev pub side : Rect → ℕ
side r = max (offset r.x2 - offset r.x1) (offset r.y2 - offset r.y1)

-- the first of a size and its doubles that isn't below a side, after n doublings at most
unfoldable pub size_from : ℕ → ℕ → ℕ → ℕ
size_from zero s side = s
size_from (suc n) s side = if nat_le side s then s else size_from n (s * 2) side

-- the least power of two that isn't below a side, 2 ^ 63 at most: there are two such tiles side by side
abbrev pub least_size : ℕ → ℕ
least_size side = size_from 63 1 side

abbrev pub size_of : Rect → ℕ
size_of r = least_size (side r)

-- where an entry stands in the order of tiles: by its layer, its size, the tile of its lower left corner, and its number
abbrev pub key : ShapeId × Shape → TileKey
key e = record {
  layer = e.1.layer.0;
  size = size_of e.1.rect;
  column = offset e.1.rect.x1 / size_of e.1.rect;
  row = offset e.1.rect.y1 / size_of e.1.rect;
  id = e.0.0;
}

-- the tile of a coordinate is one lower than the first of a range of coordinates, or one of the range
abbrev pub is_within : ℕ → ℤ → ℤ → ℤ → Bool
is_within size low high z = nat_le (offset low / size) (offset z / size + 1) && nat_le (offset z / size) (offset high / size)

-- an entry is on a layer, and its tile is near a rectangle in x and in y
abbrev pub is_near : LayerId → Rect → ShapeId × Shape → Bool
is_near layer r e =
    (e.1.layer.0 == layer.0) && (is_within (size_of e.1.rect) r.x1 r.x2 e.1.rect.x1 && is_within (size_of e.1.rect) r.y1 r.y2 e.1.rect.y1)

-- how many entries are near a rectangle on a layer
abbrev pub near_count : LayerId → Rect → List (ShapeId × Shape) → ℕ
near_count layer r es = count_by (is_near layer r) es

-- Entries in the order of their tiles, and how a search goes through them.
use Rattle.std.specs.Prelude.{◌≡◌, ◌≤◌, ◌<◌, ◌+◌, ◌/◌, ◌==◌, ℕ, List, ◌⊎◌, length, slice_index_or, option_map, Option}
use Rattle.std.specs.List.{dedup, filter_map}
use Rattle.slab.specs.Slab.{Slab, entries, get}
use Rattle.line_laws.specs.Lines.{SameThings}
use Rattle.design_model.specs.declared.geometry.Rect.{Rect}
use Rattle.design_model.specs.declared.identifier.LayerId.{LayerId}
use Rattle.design_model.specs.declared.identifier.ShapeId.{ShapeId}
use Rattle.shape_index.specs.declared.shape.Shape.{Shape}
use Rattle.shape_index.specs.declared.tile.TileKey.{TileKey}
use Rattle.shape_index.specs.declared.tile.Step.{Step}
use Rattle.shape_index.specs.declared.tile.Step.TheVariants.{Here, From, End}
use Rattle.shape_index.specs.Shapes.{numbered}
use Rattle.shape_index.specs.Tiles.{key, offset}

-- by layer, size, column, row and number
abbrev pub Before : TileKey → TileKey → Type 0
Before a b =
    (a.layer < b.layer) ⊎ ((a.layer ≡ b.layer) × ((a.size < b.size) ⊎ ((a.size ≡ b.size) × ((a.column < b.column) ⊎ ((a.column ≡ b.column)
    × ((a.row < b.row) ⊎ ((a.row ≡ b.row) × (a.id < b.id))))))))

-- two keys are of one tile
abbrev pub OneTile : TileKey → TileKey → Type 0
OneTile a b = (a.layer ≡ b.layer) × (a.size ≡ b.size) × (a.column ≡ b.column) × (a.row ≡ b.row)

-- none comes before an earlier one
abbrev pub AreInOrder : List (ShapeId × Shape) → Type 0
AreInOrder es = (i j : ℕ) (d : ShapeId × Shape) → i ≤ j → j < length es → ¬ Before (key (slice_index_or es j d)) (key (slice_index_or es i d))

-- the entries of numbers of a slab, without those that it doesn't have
abbrev pub entry_of : Slab Shape → ShapeId → Option (ShapeId × Shape)
entry_of s id = option_map (λ x. (id, x)) (get s id.0)

abbrev pub listed : Slab Shape → List ShapeId → List (ShapeId × Shape)
listed s ids = filter_map (entry_of s) ids

-- it has them all
abbrev pub AreAllThere : Slab Shape → List ShapeId → Type 0
AreAllThere s ids = length (listed s ids) ≡ length ids

-- of entries of one number that stand side by side the first alone
abbrev pub once : List (ShapeId × Shape) → List (ShapeId × Shape)
once es = dedup (λ a b. a.0.0 == b.0.0) es

-- the numbers are those of the slab, in the order of their tiles, where one may stand in several slots
pub record IsOrderOf (s : Slab Shape) (ids : List ShapeId) : Type 0 where
  pub all_there : AreAllThere s ids
  pub same : SameThings (once (listed s ids)) (numbered (entries s))
  pub in_order : AreInOrder (listed s ids)

-- a tile is on a layer, and at most one lower than those that a rectangle meets
pub record IsNear (layer : LayerId) (r : Rect) (t : TileKey) : Type 0 where
  pub on : t.layer ≡ layer.0
  pub left : offset r.x1 / t.size ≤ t.column + 1
  pub right : t.column ≤ offset r.x2 / t.size
  pub below : offset r.y1 / t.size ≤ t.row + 1
  pub above : t.row ≤ offset r.y2 / t.size

-- no tile that is near is passed over
abbrev pub Leads : LayerId → Rect → TileKey → Step → Type 0
Leads layer r at Here = IsNear layer r at
Leads layer r at (From next) = (¬ IsNear layer r at) × ((t : TileKey) → ¬ Before t at → Before t next → ¬ IsNear layer r t)
Leads layer r at End = (t : TileKey) → ¬ Before t at → ¬ IsNear layer r t

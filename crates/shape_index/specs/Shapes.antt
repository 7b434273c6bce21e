-- A set of shapes as its contracts see it.
use Rattle.std.specs.Prelude.{◌≡◌, ℕ, ◌-◌, Bool, ◌&&◌, ◌==◌, List, [], ◌∷◌, Option, Some, None, count_by, filter, map, if◌then◌else◌}
use Rattle.design_model.specs.declared.geometry.Rect.{Rect}
use Rattle.design_model.specs.declared.identifier.LayerId.{LayerId}
use Rattle.design_model.specs.declared.identifier.ShapeId.{ShapeId}
use Rattle.slab.specs.Slab.{Slab, entries, slab_len}
use Rattle.design_model.specs.Views.{rectangle_of}
use Rattle.shape_rules.specs.Meeting.{meets}
use Rattle.shape_index.specs.declared.shape.Shape.{Shape}

-- the shapes under their numbers, each number once, in an order that is left open, and how many more fit with no memory
pub record Shapes : Type 0 where
  pub entries : List (ShapeId × Shape)
  pub spare : ℕ

-- the shape under a number
abbrev pub at : ShapeId → List (ShapeId × Shape) → Option Shape
at id [] = None
at id (e ∷ es) = if id.0 == e.0.0 then Some e.1 else at id es

-- two shapes are on one layer, with one rectangle and one number of the caller's
pub record AreSame (a b : Shape) : Type 0 where
  pub layer : a.layer.0 ≡ b.layer.0
  pub rect : rectangle_of a.rect ≡ rectangle_of b.rect
  pub net : a.net ≡ b.net

-- an entry's shape is on a layer and meets a rectangle
abbrev pub is_met : LayerId → Rect → ShapeId × Shape → Bool
is_met layer rect e = (e.1.layer.0 == layer.0) && meets (rectangle_of e.1.rect) (rectangle_of rect)

-- the entries whose shapes are on a layer and meet a rectangle
abbrev pub met_by : LayerId → Rect → List (ShapeId × Shape) → List (ShapeId × Shape)
met_by layer rect es = filter (is_met layer rect) es

-- how many they are
abbrev pub met_count : LayerId → Rect → List (ShapeId × Shape) → ℕ
met_count layer rect es = count_by (is_met layer rect) es

-- values under plain numbers as entries
abbrev pub numbered : List (ℕ × Shape) → List (ShapeId × Shape)
numbered es = map (λ e. (record { 0 = e.0 }, e.1)) es

-- a slab as a set of shapes
abbrev pub slab_shapes : Slab Shape → Shapes
slab_shapes s = record { entries = numbered (entries s); spare = s.capacity - slab_len s }

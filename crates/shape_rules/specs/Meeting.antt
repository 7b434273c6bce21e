-- Rectangles that meet, and what they share (own).
use Rattle.std.specs.Prelude.{Bool, ◌&&◌, List, [], ◌∷◌, ◌++◌, map, Option, Some, None, if◌then◌else◌}
use Rattle.std.specs.Int.{int_min, int_max}
use Rattle.std.specs.Int.Signed.{le_z}
use Rattle.design_model.specs.Geometry.{Rectangle}

-- two closed rectangles share a point
abbrev pub meets : Rectangle → Rectangle → Bool
meets a b = (le_z a.x1 b.x2 && le_z b.x1 a.x2) && (le_z a.y1 b.y2 && le_z b.y1 a.y2)

-- from the greater of the lower ends to the lesser of the upper ones
abbrev pub shared : Rectangle → Rectangle → Rectangle
shared a b = record { x1 = int_max a.x1 b.x1; y1 = int_max a.y1 b.y1; x2 = int_min a.x2 b.x2; y2 = int_min a.y2 b.y2 }

-- the rectangle of the points that two closed rectangles share
abbrev pub common : Rectangle → Rectangle → Option Rectangle
common a b = if meets a b then Some (shared a b) else None

-- all pairs of a list, the earlier thing first
abbrev pub pairs_of : {A : Type 0} → List A → List (A × A)
pairs_of [] = []
pairs_of (x ∷ xs) = map (λ y. (x, y)) xs ++ pairs_of xs

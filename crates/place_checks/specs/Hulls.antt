-- The least rectangle round several, and rectangles apart from each other.
use Rattle.std.specs.Prelude.{Bool, ◌||◌, pos, List, [], ◌∷◌}
use Rattle.std.specs.Int.{int_min, int_max}
use Rattle.std.specs.Int.Signed.{le_z}
use Rattle.design_model.specs.Geometry.{Rectangle}

-- the least rectangle round two
abbrev pub joined : Rectangle → Rectangle → Rectangle
joined a b = record { x1 = int_min a.x1 b.x1; y1 = int_min a.y1 b.y1; x2 = int_max a.x2 b.x2; y2 = int_max a.y2 b.y2 }

-- the least round one and those of a list
abbrev pub joined_all : Rectangle → List Rectangle → Rectangle
joined_all r [] = r
joined_all r (next ∷ rest) = joined_all (joined r next) rest

-- the least round those of a list, and a point where there is none
abbrev pub hull_of : List Rectangle → Rectangle
hull_of [] = record { x1 = pos 0; y1 = pos 0; x2 = pos 0; y2 = pos 0 }
hull_of (first ∷ rest) = joined_all first rest

-- one lies wholly left or right of the other, where edges may touch
abbrev pub is_beside : Rectangle → Rectangle → Bool
is_beside a b = le_z a.x2 b.x1 || le_z b.x2 a.x1

-- one lies wholly below or above the other, where edges may touch
abbrev pub is_over : Rectangle → Rectangle → Bool
is_over a b = le_z a.y2 b.y1 || le_z b.y2 a.y1

abbrev pub is_apart : Rectangle → Rectangle → Bool
is_apart a b = is_beside a b || is_over a b

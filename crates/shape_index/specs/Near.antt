-- Rectangles and shapes that meet another, and that are near it by the tiles under which they stand.
use Rattle.std.specs.Prelude.{◌-◌, ℕ, max, Bool, ◌&&◌, ◌==◌, List, count_by}
use Rattle.design_model.specs.Geometry.{Rectangle}
use Rattle.lef_grammar.specs.Measures.{Shape}
use Rattle.shape_rules.specs.Meeting.{meets}
use Rattle.shape_index.specs.Tiles.{offset, least_size, is_within}

-- the size of the tiles under which a rectangle stands: by its longer side
abbrev pub tile_size : Rectangle → ℕ
tile_size r = least_size (max (offset r.x2 - offset r.x1) (offset r.y2 - offset r.y1))

-- the tile of the second is one of those that the first meets, or one lower in x or in y
abbrev pub are_near : Rectangle → Rectangle → Bool
are_near r t = is_within (tile_size t) r.x1 r.x2 t.x1 && is_within (tile_size t) r.y1 r.y2 t.y1

-- so are two shapes of one layer
abbrev pub near_shape : Shape → Shape → Bool
near_shape s t = (t.layer == s.layer) && are_near s.box t.box

-- how many of some shapes are near one
abbrev pub near_shapes : Shape → List Shape → ℕ
near_shapes s shapes = count_by (near_shape s) shapes

-- two shapes of one layer share a point
abbrev pub met_shape : Shape → Shape → Bool
met_shape s t = (t.layer == s.layer) && meets t.box s.box

-- how many of some shapes meet one
abbrev pub met_shapes : Shape → List Shape → ℕ
met_shapes s shapes = count_by (met_shape s) shapes

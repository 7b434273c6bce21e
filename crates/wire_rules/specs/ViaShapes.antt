-- What a via covers about its origin, in database units (LEF/DEF 5.8 Language Reference, "Vias").
use Rattle.std.specs.Prelude.{ℕ, ◌/◌, List, [], ◌∷◌, ℤ, pos, neg_ℤ, nat_abs, ◌+ℤ◌, ◌-ℤ◌, ◌*ℤ◌}
use Rattle.design_model.specs.declared.geometry.Point.{Point}
use Rattle.design_model.specs.Geometry.{Rectangle, spanned, moved}

-- a rectangle on a layer, by the layer's name
pub record NamedShape : Type 0 where
  pub layer : List ℕ
  pub box : Rectangle

-- what a via that a VIARULE generates is made of: its layers, the width and height of a cut, the space between two in x and
-- in y, the rows and columns of cuts, how far each metal goes past them, and where it and its metals are moved
pub record GeneratedVia : Type 0 where
  pub bottom : List ℕ
  pub cut : List ℕ
  pub top : List ℕ
  pub cut_size : Point
  pub cut_spacing : Point
  pub rows : ℤ
  pub columns : ℤ
  pub bottom_enclosure : Point
  pub top_enclosure : Point
  pub bottom_offset : Point
  pub top_offset : Point
  pub origin : Point

-- how long n cuts are in a line
abbrev pub extent_of : ℤ → ℤ → ℤ → ℤ
extent_of n size space = (n *ℤ size) +ℤ ((n -ℤ pos 1) *ℤ space)

-- the half of a length, which is 0 or more
abbrev pub half : ℤ → ℤ
half length = pos (nat_abs length / 2)

-- a line of this length about 0, by its lower and its upper end
abbrev pub centred : ℤ → ℤ × ℤ
centred length = (neg_ℤ (half length), neg_ℤ (half length) +ℤ length)

-- the box round all cuts
abbrev pub cut_box : GeneratedVia → Rectangle
cut_box v =
    let across = centred (extent_of v.columns v.cut_size.x v.cut_spacing.x) in
    let along = centred (extent_of v.rows v.cut_size.y v.cut_spacing.y) in
    record { x1 = across.0; y1 = along.0; x2 = across.1; y2 = along.1 }

-- a rectangle with so much more at each side, where corners that cross are put in order
abbrev pub grown : Point → Rectangle → Rectangle
grown by r = spanned (record { x = r.x1 -ℤ by.x; y = r.y1 -ℤ by.y }) (record { x = r.x2 +ℤ by.x; y = r.y2 +ℤ by.y })

abbrev pub moved_to : Point → Rectangle → Rectangle
moved_to by r = moved by.x by.y r

-- the cuts are one box; each metal is that box, grown and moved; and all are moved by the origin
abbrev pub generated_shapes : GeneratedVia → List NamedShape
generated_shapes v =
    record { layer = v.bottom; box = moved_to v.origin (moved_to v.bottom_offset (grown v.bottom_enclosure (cut_box v))) }
    ∷ record { layer = v.cut; box = moved_to v.origin (cut_box v) }
    ∷ record { layer = v.top; box = moved_to v.origin (moved_to v.top_offset (grown v.top_enclosure (cut_box v))) }
    ∷ []

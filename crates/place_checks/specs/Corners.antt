-- Boundaries by their corners.
use Rattle.std.specs.Prelude.{◌≡◌, ℤ, pos}
use Rattle.design_model.specs.declared.geometry.Point.{Point}
use Rattle.design_model.specs.Geometry.{Rectangle, lower_left, upper_right, spanned}
use Rattle.def_grammar.specs.Numbers.{int_of}
use Rattle.def_grammar.specs.Parts.{Coordinates}
use Rattle.def_grammar.specs.Points.{place_of}
use Rattle.place_parts.specs.declared.standing.Spot.{Spot}

-- the rectangle from the origin to a corner
abbrev pub corner : ℤ → ℤ → Rectangle
corner width height = record { x1 = pos 0; y1 = pos 0; x2 = width; y2 = height }

-- a rectangle with its corners in order
abbrev pub in_order : Rectangle → Rectangle
in_order r = spanned (lower_left r) (upper_right r)

-- a component stands at these numbers
abbrev pub IsSpotAt : Spot → Coordinates → Type 0
IsSpotAt spot at = (spot.x ≡ int_of at.x) × (spot.y ≡ int_of at.y)

-- a point is that at which it stands
abbrev pub IsCornerOf : Spot → Point → Type 0
IsCornerOf spot point = (at : Coordinates) → IsSpotAt spot at → point ≡ place_of at

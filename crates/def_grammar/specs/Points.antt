-- Points that several DEF statements share. In a row of points a * repeats the coordinate of the point before; in the
-- first, and in a point by itself, it is an invalid number.
use Rattle.std.specs.Prelude.{ℕ, Bool, ◌||◌, List, [], ◌∷◌, ℤ, codes, if◌then◌else◌, refl}
use Rattle.design_model.specs.declared.geometry.Point.{Point}
use Rattle.design_model.specs.Geometry.{Rectangle, spanned}
use Rattle.form_meanings.specs.Words.{is_word}
use Rattle.form_meanings.specs.Meaning.{Seen}
use Rattle.statement_model.specs.Form.{Form, number, ◌▸◌, ◌◂◌, ◌⨟◌, opt, many, seen}
use Rattle.def_grammar.specs.Numbers.{int_of, is_int}
use Rattle.def_grammar.specs.Parts.{Coordinates, as_point, int, point}
use Rattle.def_grammar.specs.Clauses.{as_list}

abbrev pub is_open : List ℕ → Bool
is_open w = is_word (codes "(") w

abbrev pub is_star : List ℕ → Bool
is_star w = is_word (codes "*") w

-- int int: a place, or a step in x and in y, without parentheses
unfoldable pub two_numbers : Form Coordinates
two_numbers = seen as_point (int ⨟ int)

-- a number or *
unfoldable pub is_coordinate : List ℕ → Bool
is_coordinate w = is_star w || is_int w

abbrev pub coordinate : Form (List ℕ)
coordinate = number is_coordinate

-- ( co co ), after another point
unfoldable pub later_point : Form Coordinates
later_point = seen as_point (codes "(" ▸ coordinate ⨟ coordinate ◂ codes ")")

-- a coordinate after another
abbrev pub coordinate_after : List ℕ → List ℕ → List ℕ
coordinate_after before w = if is_star w then before else w

-- a point after another
abbrev pub point_after : Coordinates → Coordinates → Coordinates
point_after before at = record { x = coordinate_after before.x at.x; y = coordinate_after before.y at.y }

-- points of a row after another, without *
abbrev pub points_after : Coordinates → List Coordinates → List Coordinates
points_after before [] = []
points_after before (at ∷ all) = point_after before at ∷ points_after (point_after before at) all

-- the points of a row, without *
abbrev pub in_row : List Coordinates → List Coordinates
in_row [] = []
in_row (at ∷ all) = at ∷ points_after at all

-- a point by itself, in database units
abbrev pub place_of : Coordinates → Point
place_of at = record { x = int_of at.x; y = int_of at.y }

-- the rectangles of corners in a row, two for each, in database units
abbrev pub rectangles_of : List Coordinates → List Rectangle
rectangles_of (a ∷ b ∷ all) = spanned (place_of a) (place_of b) ∷ rectangles_of all
rectangles_of _ = []

-- a coordinate after another, in database units
abbrev pub number_after : ℤ → List ℕ → ℤ
number_after before w = if is_star w then before else int_of w

-- a point after another, in database units
abbrev pub place_after : Point → Coordinates → Point
place_after before at = record { x = number_after before.x at.x; y = number_after before.y at.y }

-- pt*
unfoldable pub points : Form (List Coordinates)
points = seen as_list (opt is_open (point ⨟ many is_open later_point))

-- two corners of a rectangle, in any order
pub record Corners : Type 0 where
  pub first : Coordinates
  pub second : Coordinates

abbrev pub as_corners : Seen (Coordinates × Coordinates) Corners
as_corners = record { to = λ p. record { first = p.0; second = p.1 }; from = λ c. (c.first, c.second); to_from = λ c. refl; from_to = λ p. refl }

abbrev pub corner_points : Corners → List Coordinates
corner_points c = in_row (c.first ∷ c.second ∷ [])

-- pt pt
unfoldable pub corners : Form Corners
corners = seen as_corners (point ⨟ later_point)

-- a polygon of three points and more
pub record Polygon : Type 0 where
  pub first : Coordinates
  pub second : Coordinates
  pub third : Coordinates
  pub others : List Coordinates

abbrev pub as_polygon : Seen (Coordinates × (Coordinates × (Coordinates × List Coordinates))) Polygon
as_polygon = record {
  to = λ p. record { first = p.0; second = p.1.0; third = p.1.1.0; others = p.1.1.1 };
  from = λ c. (c.first, (c.second, (c.third, c.others)));
  to_from = λ c. refl;
  from_to = λ p. refl;
}

abbrev pub polygon_points : Polygon → List Coordinates
polygon_points p = in_row (p.first ∷ p.second ∷ p.third ∷ p.others)

-- pt pt pt pt*
unfoldable pub polygon : Form Polygon
polygon = seen as_polygon (point ⨟ later_point ⨟ later_point ⨟ many is_open later_point)

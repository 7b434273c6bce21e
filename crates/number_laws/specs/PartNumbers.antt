-- What the numbers of parts of DEF statements pass, by the tests of their forms.
use Rattle.std.specs.Prelude.{◌≡◌, ℕ, Bool, true, List, [], ◌∷◌}
use Rattle.std.specs.List.{All}
use Rattle.def_grammar.specs.Numbers.{is_int}
use Rattle.def_grammar.specs.Parts.{Coordinates}
use Rattle.def_grammar.specs.Points.{is_coordinate, Corners, Polygon}

abbrev pub Passes : (List ℕ → Bool) → List ℕ → Type 0
Passes test w = test w ≡ true

-- x and y
abbrev pub BothPass : (List ℕ → Bool) → Coordinates → Type 0
BothPass test at = Passes test at.x × Passes test at.y

-- a point by itself, or a place or a step without parentheses
abbrev pub PointNumbers : Coordinates → Type 0
PointNumbers at = BothPass is_int at

-- a point after another
abbrev pub LaterPointNumbers : Coordinates → Type 0
LaterPointNumbers at = BothPass is_coordinate at

-- a row of points
abbrev pub PointsNumbers : List Coordinates → Type 0
PointsNumbers [] = Unit {0}
PointsNumbers (at ∷ all) = PointNumbers at × All LaterPointNumbers all

abbrev pub CornersNumbers : Corners → Type 0
CornersNumbers c = PointNumbers c.first × LaterPointNumbers c.second

-- corners after another point
abbrev pub LaterCornersNumbers : Corners → Type 0
LaterCornersNumbers c = LaterPointNumbers c.first × LaterPointNumbers c.second

abbrev pub PolygonNumbers : Polygon → Type 0
PolygonNumbers p = PointNumbers p.first × LaterPointNumbers p.second × LaterPointNumbers p.third × All LaterPointNumbers p.others

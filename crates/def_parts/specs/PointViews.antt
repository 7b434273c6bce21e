-- Points of the program as points of the definitions, and which tokens they are.
use Rattle.std.specs.Prelude.{List}
use Rattle.form_meanings.specs.Words.{Rest}
use Rattle.form_meanings.specs.Meaning.{items}
use Rattle.statement_model.specs.Form.{read}
use Rattle.def_grammar.specs.Parts.{Coordinates}
use Rattle.def_grammar.specs.Points.{is_open, later_point, Corners, Polygon}
use Rattle.statement_model.specs.Tokens.{Token}
use Rattle.lefdef_tokens.specs.Places.{StandsAt, past}
use Rattle.lefdef_tokens.specs.Views.{rest_of}
use Rattle.lefdef_tokens.specs.declared.cursor.Cursor.{Cursor}
use Rattle.statement_reader.specs.PartViews.{PartsAt}
use Rattle.statement_reader.specs.declared.parts.Parts.{Parts}
use Rattle.def_parts.specs.declared.point.Coordinates as code
use Rattle.def_parts.specs.declared.points.LaterPoint.{LaterPoint}
use Rattle.def_parts.specs.declared.points.Corners as code_corners
use Rattle.def_parts.specs.declared.points.Polygon as code_polygon

-- a part of the program as one of the definitions, and what is left after it
abbrev pub with_rest : {A B : Type 0} → (A → B) → A × Cursor → B × Rest
with_rest view x = (view x.0, rest_of x.1)

-- a part that is one of the definitions already
abbrev pub same : {A : Type 0} → A → A
same a = a

abbrev pub point_view : code.Coordinates → Coordinates
point_view p = record { x = p.x.bytes.now; y = p.y.bytes.now }

abbrev pub later_view : LaterPoint → Coordinates
later_view p = point_view p.at

-- the points that are left of a row
abbrev pub later_points : Parts LaterPoint → List Coordinates
later_points parts = items parts.most is_open (read later_point) (rest_of parts.cursor)

abbrev pub corners_view : code_corners.Corners → Corners
corners_view c = record { first = point_view c.first; second = point_view c.second }

abbrev pub polygon_view : code_polygon.Polygon → Polygon
polygon_view p = record { first = point_view p.first; second = point_view p.second; third = point_view p.third; others = later_points p.others }

-- a point with parentheses is the first of these tokens
abbrev pub PointAt : List Token → code.Coordinates → Type 0
PointAt ps p = StandsAt (past 1 ps) p.x × StandsAt (past 2 ps) p.y

-- two numbers without parentheses
abbrev pub NumbersAt : List Token → code.Coordinates → Type 0
NumbersAt ps p = StandsAt ps p.x × StandsAt (past 1 ps) p.y

abbrev pub LaterAt : List Token → LaterPoint → Type 0
LaterAt ps p = PointAt ps p.at

abbrev pub CornersAt : List Token → code_corners.Corners → Type 0
CornersAt ps c = PointAt ps c.first × PointAt (past 4 ps) c.second

abbrev pub PolygonAt : List Token → code_polygon.Polygon → Type 0
PolygonAt ps p = PointAt ps p.first × PointAt (past 4 ps) p.second × PointAt (past 8 ps) p.third × PartsAt (past 12 ps) p.others

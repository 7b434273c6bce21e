-- The die's area of the program as that of the definitions, and which tokens it is.
use Rattle.std.specs.Prelude.{List}
use Rattle.statement_model.specs.Tokens.{Token}
use Rattle.def_grammar.specs.DieArea.{DieArea}
use Rattle.lefdef_tokens.specs.Places.{past}
use Rattle.statement_reader.specs.PartViews.{PartsAt}
use Rattle.def_parts.specs.PointViews.{PointAt, later_points, point_view}
use Rattle.place_parts.specs.declared.die_area.DieAreaParts.{DieAreaParts}

abbrev pub die_area_view : DieAreaParts → DieArea
die_area_view a = record { first = point_view a.first; second = point_view a.second; others = later_points a.others }

-- of these tokens, the first four are the first point, the next four the second, and the other points begin behind them
abbrev pub DieAreaAt : List Token → DieAreaParts → Type 0
DieAreaAt ps a = PointAt ps a.first × PointAt (past 4 ps) a.second × PartsAt (past 8 ps) a.others

-- What the numbers of the entries about places, and of the statements about the floor, pass, by the tests of their forms.
use Rattle.std.specs.Prelude.{◌≡◌, true, IfSome}
use Rattle.std.specs.List.{All}
use Rattle.def_grammar.specs.Limits.{is_size, is_lines, is_in_range}
use Rattle.def_grammar.specs.Numbers.{is_int, is_count}
use Rattle.def_grammar.specs.Blockages.{BlockageShape, blocked_rectangle, blocked_polygon, Blockage, BlockageEntry, blocks, blockage_kept}
use Rattle.def_grammar.specs.Components.{Clause, placed, unplaced, region, other, Component}
use Rattle.def_grammar.specs.DieArea.{DieArea}
use Rattle.def_grammar.specs.Grids.{Tracks, GridLines, GcellGrid}
use Rattle.def_grammar.specs.Pins.{Clearance, spacing, design_rule_width, no_clearance, PinClause, pin_placed, pin_net, pin_port, pin_has_rectangle, pin_has_via, pin_has_polygon, pin_kept, Pin}
use Rattle.def_grammar.specs.Regions.{Region}
use Rattle.def_grammar.specs.Rows.{SiteArray, Row}
use Rattle.number_laws.specs.PartNumbers.{Passes, PointNumbers, LaterPointNumbers, CornersNumbers, LaterCornersNumbers, PolygonNumbers}

abbrev pub ClauseNumbers : Clause → Type 0
ClauseNumbers (placed status at o) = PointNumbers at
ClauseNumbers (unplaced rest) = Unit {0}
ClauseNumbers (region name) = Unit {0}
ClauseNumbers (other w rest) = Unit {0}

abbrev pub ComponentNumbers : Component → Type 0
ComponentNumbers c = All ClauseNumbers c.clauses

abbrev pub ClearanceNumbers : Clearance → Type 0
ClearanceNumbers (spacing n) = Passes is_int n
ClearanceNumbers (design_rule_width n) = Passes is_int n
ClearanceNumbers no_clearance = Unit {0}

abbrev pub PinClauseNumbers : PinClause → Type 0
PinClauseNumbers (pin_placed status at o) = PointNumbers at
PinClauseNumbers (pin_net name) = Unit {0}
PinClauseNumbers pin_port = Unit {0}
PinClauseNumbers (pin_has_rectangle r) = ClearanceNumbers r.clearance × CornersNumbers r.corners
PinClauseNumbers (pin_has_via v) = PointNumbers v.at
PinClauseNumbers (pin_has_polygon layer rest) = Unit {0}
PinClauseNumbers (pin_kept clause) = Unit {0}

abbrev pub PinNumbers : Pin → Type 0
PinNumbers p = All PinClauseNumbers p.clauses

abbrev pub RegionNumbers : Region → Type 0
RegionNumbers r = CornersNumbers r.first × All LaterCornersNumbers r.others

abbrev pub BlockageShapeNumbers : BlockageShape → Type 0
BlockageShapeNumbers (blocked_rectangle corners) = CornersNumbers corners
BlockageShapeNumbers (blocked_polygon polygon) = PolygonNumbers polygon

abbrev pub BlockageNumbers : Blockage → Type 0
BlockageNumbers b = BlockageShapeNumbers b.first × All BlockageShapeNumbers b.others

abbrev pub BlockageEntryNumbers : BlockageEntry → Type 0
BlockageEntryNumbers (blocks b) = BlockageNumbers b
BlockageEntryNumbers (blockage_kept tokens) = Unit {0}

abbrev pub DieAreaNumbers : DieArea → Type 0
DieAreaNumbers a = PointNumbers a.first × LaterPointNumbers a.second × All LaterPointNumbers a.others

abbrev pub SiteArrayNumbers : SiteArray → Type 0
SiteArrayNumbers a = Passes is_count a.columns × Passes is_count a.rows × IfSome a.step PointNumbers

abbrev pub RowNumbers : Row → Type 0
RowNumbers r = PointNumbers r.origin × IfSome r.sites SiteArrayNumbers

abbrev pub TracksNumbers : Tracks → Type 0
TracksNumbers t = Passes is_int t.start × Passes is_int t.count × Passes is_int t.step

abbrev pub GridLinesNumbers : GridLines → Type 0
GridLinesNumbers g = Passes is_int g.start × Passes is_lines g.count × Passes is_size g.step × (is_in_range g.start g.count g.step ≡ true)

abbrev pub GcellGridNumbers : GcellGrid → Type 0
GcellGridNumbers g = GridLinesNumbers g.lines

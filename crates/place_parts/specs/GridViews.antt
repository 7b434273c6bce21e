-- Tracks and grids of the program as those of the definitions, and which tokens they are.
use Rattle.std.specs.Prelude.{List}
use Rattle.def_grammar.specs.Grids.{Axis, along_x, along_y, GcellGrid, GridLines, Tracks}
use Rattle.statement_model.specs.Tokens as definitions
use Rattle.lefdef_tokens.specs.Places.{RunAt, StandsAt, past}
use Rattle.lefdef_tokens.specs.Views.{words_of}
use Rattle.place_parts.specs.declared.grids.Axis as code_axis
use Rattle.place_parts.specs.declared.grids.Axis.TheVariants.{X, Y}
use Rattle.place_parts.specs.declared.grids.GcellGridParts.{GcellGridParts}
use Rattle.place_parts.specs.declared.grids.GridLines as code
use Rattle.place_parts.specs.declared.grids.TracksParts.{TracksParts}

abbrev pub axis_view : code_axis.Axis → Axis
axis_view X = along_x
axis_view Y = along_y

abbrev pub tracks_view : TracksParts → Tracks
tracks_view t = record { axis = axis_view t.axis; start = t.start.bytes.now; count = t.count.bytes.now; step = t.step.bytes.now; rest = words_of t.rest }

abbrev pub lines_view : code.GridLines → GridLines
lines_view g = record { start = g.start.bytes.now; count = g.count.bytes.now; step = g.step.bytes.now }

abbrev pub gcell_grid_view : GcellGridParts → GcellGrid
gcell_grid_view g = record { axis = axis_view g.axis; lines = lines_view g.lines }

-- of these tokens, the second is where the first track stands, the fourth how many there are, and the sixth their space
abbrev pub TracksAt : List definitions.Token → TracksParts → Type 0
TracksAt ps t = StandsAt (past 1 ps) t.start × StandsAt (past 3 ps) t.count × StandsAt (past 5 ps) t.step × RunAt (past 6 ps) t.rest

-- start DO count STEP step
abbrev pub LinesAt : List definitions.Token → code.GridLines → Type 0
LinesAt ps g = StandsAt ps g.start × StandsAt (past 2 ps) g.count × StandsAt (past 4 ps) g.step

-- its lines stand behind its axis
abbrev pub GcellGridAt : List definitions.Token → GcellGridParts → Type 0
GcellGridAt ps g = LinesAt (past 1 ps) g.lines

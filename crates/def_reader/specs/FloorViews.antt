-- Statements about the floor of the program as those of the definitions, and which tokens they are.
use Rattle.std.specs.Prelude.{List}
use Rattle.statement_model.specs.Tokens.{Token}
use Rattle.std.proofs.Common.{inl, inr}
use Rattle.def_grammar.specs.Top.{FloorRecord}
use Rattle.place_parts.specs.DieAreaViews.{DieAreaAt, die_area_view}
use Rattle.place_parts.specs.GridViews.{GcellGridAt, TracksAt, gcell_grid_view, tracks_view}
use Rattle.place_parts.specs.AgainViews.{RowBegins, row_at_view}
use Rattle.def_reader.specs.declared.floor.Floor as code
use Rattle.def_reader.specs.declared.floor.Floor.TheVariants as variants

abbrev pub floor_view : code.Floor → FloorRecord
floor_view (variants.DieArea parts) = inl (die_area_view parts)
floor_view (variants.Row at) = inr (inl (row_at_view at))
floor_view (variants.Tracks parts) = inr (inr (inl (tracks_view parts)))
floor_view (variants.GcellGrid parts) = inr (inr (inr (gcell_grid_view parts)))

-- behind the statement's word
abbrev pub FloorAt : List Token → code.Floor → Type 0
FloorAt ps (variants.DieArea parts) = DieAreaAt ps parts
FloorAt ps (variants.Row at) = RowBegins ps at
FloorAt ps (variants.Tracks parts) = TracksAt ps parts
FloorAt ps (variants.GcellGrid parts) = GcellGridAt ps parts

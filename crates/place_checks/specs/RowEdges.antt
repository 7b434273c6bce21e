-- The edges by which rows are looked up.
use Rattle.std.specs.Prelude.{◌==◌, ℤ, if◌then◌else◌}
use Rattle.place_checks.specs.declared.placed_row.PlacedRow.{PlacedRow}
use Rattle.place_checks.specs.declared.row_index.TheConstants.{NO_EDGE}

-- the lower edge of a row with one line of sites; the others stand behind all of these
abbrev pub edge_of : PlacedRow → ℤ
edge_of row = if row.sites.rows == 1 then row.sites.origin.y else NO_EDGE

-- Statements that are kept by where they stand, as what is read there, and with which token they begin.
use Rattle.std.specs.Prelude.{◌≡◌, List, [], Option, Some, None}
use Rattle.design_model.specs.declared.geometry.Orient.TheVariants.{N}
use Rattle.form_meanings.specs.Words.{Rest}
use Rattle.statement_model.specs.Form.{read}
use Rattle.def_grammar.specs.Parts.{Coordinates}
use Rattle.def_grammar.specs.Blockages.{BlockageEntry, blockage_form, blockage_kept}
use Rattle.def_grammar.specs.Regions.{Region, region_form}
use Rattle.def_grammar.specs.Rows.{Row, row_statement}
use Rattle.statement_model.specs.Tokens.{Token}
use Rattle.lefdef_tokens.specs.Views.{pieces_of, rest_of}
use Rattle.place_parts.specs.declared.read_again.BlockageAt.{BlockageAt}
use Rattle.place_parts.specs.declared.read_again.RegionAt.{RegionAt}
use Rattle.place_parts.specs.declared.read_again.RowAt.{RowAt}

-- what is read, or a value that stands for nothing
abbrev pub read_or : {A : Type 0} → A → Option (A × Rest) → A
read_or nothing None = nothing
read_or nothing (Some x) = x.0

abbrev no_point : Coordinates
no_point = record { x = []; y = [] }

abbrev no_region : Region
no_region = record { name = []; first = record { first = no_point; second = no_point }; others = []; clauses = [] }

abbrev no_row : Row
no_row = record { name = []; site = []; origin = no_point; orient = N; sites = None; clauses = [] }

abbrev pub region_at_view : RegionAt → Region
region_at_view k = read_or no_region (read region_form (rest_of k.cursor))

abbrev pub blockage_at_view : BlockageAt → BlockageEntry
blockage_at_view k = read_or (blockage_kept []) (read blockage_form (rest_of k.cursor))

abbrev pub row_at_view : RowAt → Row
row_at_view k = read_or no_row (read row_statement (rest_of k.cursor))

-- what is kept begins with the first of these tokens
abbrev pub RegionBegins : List Token → RegionAt → Type 0
RegionBegins ps k = pieces_of k.cursor.tokens ≡ ps

abbrev pub BlockageBegins : List Token → BlockageAt → Type 0
BlockageBegins ps k = pieces_of k.cursor.tokens ≡ ps

abbrev pub RowBegins : List Token → RowAt → Type 0
RowBegins ps k = pieces_of k.cursor.tokens ≡ ps

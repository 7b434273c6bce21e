-- Statements of the program as records.
use Rattle.std.specs.Prelude.{ℕ, List, Option, map}
use Rattle.design_model.specs.declared.mode.Mode.{Mode}
use Rattle.design_model.specs.declared.mode.Section.{Section}
use Rattle.def_grammar.specs.Top.{units, end_design, properties, extension, floor, header, kept}
use Rattle.form_meanings.specs.Words.{◌>>=◌}
use Rattle.def_grammar.specs.Records.{Record, top, in_properties, end_section, entry, entry_of, name_of}
use Rattle.lefdef_tokens.specs.Views.{words_of}
use Rattle.lefdef_tokens.specs.declared.token.Token.{Token}
use Rattle.lefdef_tokens.specs.declared.token_run.TokenRun.{TokenRun}
use Rattle.def_reader.specs.EntryViews.{entry_view}
use Rattle.def_reader.specs.FloorViews.{floor_view}
use Rattle.def_reader.specs.PropertyViews.{property_view}
use Rattle.def_reader.specs.declared.statement.Statement.{Statement}
use Rattle.def_reader.specs.declared.statement.Statement.TheVariants as variants

abbrev pub mode_view : Mode → Mode
mode_view mode = mode

abbrev pub header_view : Section × Token → Section × List ℕ
header_view x = (x.0, x.1.bytes.now)

abbrev pub kept_view : Token × TokenRun → List ℕ × List (List ℕ)
kept_view x = (x.0.bytes.now, words_of x.1)

abbrev pub record_view : Statement → Record
record_view (variants.Units n) = top (units n.bytes.now)
record_view variants.EndDesign = top end_design
record_view variants.Properties = top properties
record_view (variants.Extension tokens) = top (extension (words_of tokens))
record_view (variants.Floor f) = top (floor (floor_view f))
record_view (variants.Header s n) = top (header s n.bytes.now)
record_view (variants.Kept w others) = top (kept w.bytes.now (words_of others))
record_view (variants.EndSection s) = end_section s
record_view (variants.Property p) = in_properties (property_view p)
record_view (variants.Entry e) = entry (entry_view e)

-- what statements say, in order
abbrev pub records_view : List Statement → List Record
records_view = map record_view

-- the name of an entry
abbrev pub entry_name : Record → Option (List ℕ)
entry_name rec = entry_of rec >>= name_of

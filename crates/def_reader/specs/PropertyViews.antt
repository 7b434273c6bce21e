-- Statements among property definitions of the program as those of the definitions, and which tokens they are.
use Rattle.std.specs.Prelude.{List}
use Rattle.statement_model.specs.Tokens.{Token}
use Rattle.def_grammar.specs.Properties.{PropertyRecord, end_properties, property}
use Rattle.lefdef_tokens.specs.Places.{RunAt}
use Rattle.lefdef_tokens.specs.Views.{words_of}
use Rattle.def_reader.specs.declared.properties.Property as code
use Rattle.def_reader.specs.declared.properties.Property.TheVariants as variants

abbrev pub property_view : code.Property → PropertyRecord
property_view variants.End = end_properties
property_view (variants.Kept tokens) = property (words_of tokens)

abbrev pub PropertyAt : List Token → code.Property → Type 0
PropertyAt ps variants.End = Unit {0}
PropertyAt ps (variants.Kept tokens) = RunAt ps tokens

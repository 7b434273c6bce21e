-- Statements that were read, as records with their tokens.
use Rattle.std.specs.Prelude.{List}
use Rattle.design_model.specs.declared.mode.Mode.{Mode}
use Rattle.statement_model.specs.Tokens.{Token}
use Rattle.def_grammar.specs.Components.{Component}
use Rattle.def_grammar.specs.Records.{Record}
use Rattle.lefdef_tokens.specs.Views.{pieces_of}
use Rattle.lefdef_tokens.specs.declared.token_run.TokenRun.{TokenRun}
use Rattle.statement_reader.specs.declared.grammar.Read.{Read}
use Rattle.place_parts.specs.ComponentViews.{component_view}
use Rattle.def_reader.specs.StatementViews.{record_view}
use Rattle.place_parts.specs.declared.component_parts.ComponentParts.{ComponentParts}
use Rattle.def_reader.specs.declared.statement.Statement.{Statement}

abbrev pub located_view : Read Statement Mode → List Token × Record
located_view x = (pieces_of x.tokens, record_view x.statement)

abbrev pub entry_view : ComponentParts × TokenRun → List Token × Component
entry_view x = (pieces_of x.1, component_view x.0)

-- a component with the tokens of its entry
abbrev pub with_tokens : List Token → ComponentParts → List Token × Component
with_tokens ps parts = (ps, component_view parts)

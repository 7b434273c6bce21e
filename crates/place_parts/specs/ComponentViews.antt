-- Entries of COMPONENTS of the program as those of the definitions, and which tokens they are.
use Rattle.std.specs.Prelude.{List}
use Rattle.def_grammar.specs.Components.{Component}
use Rattle.statement_model.specs.Tokens.{Token}
use Rattle.lefdef_tokens.specs.Places.{RunAt, StandsAt, behind, past}
use Rattle.lefdef_tokens.specs.Views.{words_of}
use Rattle.statement_reader.specs.PartViews.{PartsAt}
use Rattle.place_parts.specs.ClauseViews.{clauses_of}
use Rattle.place_parts.specs.declared.component_parts.ComponentParts.{ComponentParts}

abbrev pub component_view : ComponentParts → Component
component_view p = record { name = p.name.bytes.now; cell = p.cell.bytes.now; rest = words_of p.rest; clauses = clauses_of p.clauses }

-- of these tokens, the first is an entry's -, the second its name, and the third its macro; the rest of its fixed part follows,
-- and its clauses begin behind it
abbrev pub ComponentAt : List Token → ComponentParts → Type 0
ComponentAt ps p = StandsAt (past 1 ps) p.name × StandsAt (past 2 ps) p.cell × RunAt (past 3 ps) p.rest × PartsAt (behind (words_of p.rest) (past 3 ps)) p.clauses

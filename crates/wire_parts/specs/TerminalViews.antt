-- Terminals of the program as those of the definitions, and which tokens they are.
use Rattle.std.specs.Prelude.{List}
use Rattle.form_meanings.specs.Meaning.{items}
use Rattle.statement_model.specs.Form.{read}
use Rattle.def_grammar.specs.Points.{is_open}
use Rattle.def_grammar.specs.Terminals.{Terminal, terminal}
use Rattle.statement_model.specs.Tokens.{Token}
use Rattle.lefdef_tokens.specs.Places.{StandsAt, past}
use Rattle.lefdef_tokens.specs.Views.{rest_of}
use Rattle.statement_reader.specs.declared.parts.Parts.{Parts}
use Rattle.wire_parts.specs.declared.terminals.Terminal as code

abbrev pub terminal_view : code.Terminal → Terminal
terminal_view t = record { owner = t.owner.bytes.now; pin = t.pin.bytes.now; is_synthesized = t.is_synthesized }

-- the terminals that are left
abbrev pub terminals_of : Parts code.Terminal → List Terminal
terminals_of parts = items parts.most is_open (read terminal) (rest_of parts.cursor)

-- of these tokens, the second is the owner and the third is the pin
abbrev pub TerminalAt : List Token → code.Terminal → Type 0
TerminalAt ps t = StandsAt (past 1 ps) t.owner × StandsAt (past 2 ps) t.pin

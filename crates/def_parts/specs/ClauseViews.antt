-- Clauses without meaning, masks and lists of the program as those of the definitions, and which tokens they are.
use Rattle.std.specs.Prelude.{ℕ, List, Option, IfSome}
use Rattle.std.specs.Option.{option_map}
use Rattle.def_grammar.specs.Clauses.{KeptClause}
use Rattle.statement_model.specs.Tokens as definitions
use Rattle.lefdef_tokens.specs.Places.{RunAt, StandsAt, past}
use Rattle.lefdef_tokens.specs.Views.{words_of}
use Rattle.lefdef_tokens.specs.declared.token.Token.{Token}
use Rattle.lefdef_tokens.specs.declared.token_run.TokenRun.{TokenRun}
use Rattle.def_parts.specs.declared.clauses.KeptClause as code

abbrev pub bytes_view : Token → List ℕ
bytes_view token = token.bytes.now

-- the token of an optional part
abbrev pub mask_view : Option Token → Option (List ℕ)
mask_view mask = option_map bytes_view mask

abbrev pub kept_view : code.KeptClause → KeptClause
kept_view c = record { keyword = c.keyword.bytes.now; rest = words_of c.rest }

-- a number or a word that may be there is the first of these tokens
abbrev pub OptionAt : List definitions.Token → Option Token → Type 0
OptionAt ps found = IfSome found (λ token. StandsAt ps token)

-- the word behind MASK
abbrev pub MaskAt : List definitions.Token → Option Token → Type 0
MaskAt ps mask = OptionAt (past 1 ps) mask

abbrev pub KeptAt : List definitions.Token → code.KeptClause → Type 0
KeptAt ps c = StandsAt ps c.keyword × RunAt (past 1 ps) c.rest

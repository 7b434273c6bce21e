-- Which tokens a statement's parts are.
use Rattle.std.specs.Prelude.{◌≡◌, ℕ, List}
use Rattle.design_model.specs.declared.mode.Mode.{Mode}
use Rattle.statement_model.specs.Tokens as definitions
use Rattle.lefdef_tokens.specs.Places.{RunAt, StandsAt, past}
use Rattle.lefdef_tokens.specs.Views.{pieces_of}
use Rattle.statement_reader.specs.declared.grammar.Read.{Read}
use Rattle.lefdef_tokens.specs.declared.token.Token.{Token}
use Rattle.lefdef_tokens.specs.declared.token_run.TokenRun.{TokenRun}
use Rattle.def_reader.specs.EntryViews.{EntryAt}
use Rattle.def_reader.specs.FloorViews.{FloorAt}
use Rattle.def_reader.specs.PropertyViews.{PropertyAt}
use Rattle.def_reader.specs.declared.statement.Statement.{Statement}
use Rattle.def_reader.specs.declared.statement.Statement.TheVariants as variants

-- a statement without meaning: the first of these tokens, and the others
abbrev pub KeptAt : List definitions.Token → Token × TokenRun → Type 0
KeptAt ps x = StandsAt ps x.0 × RunAt (past 1 ps) x.1

-- the parts of a statement that these tokens are
abbrev pub StatementAt : List definitions.Token → Statement → Type 0
StatementAt ps (variants.Units n) = StandsAt (past 3 ps) n
StatementAt ps variants.EndDesign = Unit {0}
StatementAt ps variants.Properties = Unit {0}
StatementAt ps (variants.Extension tokens) = RunAt (past 1 ps) tokens
StatementAt ps (variants.Floor floor) = FloorAt (past 1 ps) floor
StatementAt ps (variants.Header s n) = StandsAt (past 1 ps) n
StatementAt ps (variants.Kept w others) = KeptAt ps (w, others)
StatementAt ps (variants.EndSection s) = Unit {0}
StatementAt ps (variants.Property p) = PropertyAt ps p
StatementAt ps (variants.Entry e) = EntryAt ps e

-- a statement of a text, without its tokens
abbrev pub StatementIn : List ℕ → Statement → Type 0
StatementIn text s = (run : TokenRun) × (run.text.now ≡ text) × StatementAt (pieces_of run) s

-- a statement of a text, with its tokens
abbrev pub ReadIn : List ℕ → Read Statement Mode → Type 0
ReadIn text x = StatementAt (pieces_of x.tokens) x.statement × (x.tokens.text.now ≡ text)

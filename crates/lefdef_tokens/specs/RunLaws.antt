-- Laws of runs of tokens.
use Rattle.std.specs.Prelude.{ℕ}
use Rattle.lefdef_tokens.specs.Places.{StandsAt, past}
use Rattle.lefdef_tokens.specs.TokenViews.{IsIn, pieces_of}
use Rattle.lefdef_tokens.specs.declared.token.Token as code
use Rattle.lefdef_tokens.specs.declared.token_run.TokenRun.{TokenRun}

-- a token of a run is the slice of its text at its place
abbrev pub TokensOfRuns : Type 0
TokensOfRuns = (run : TokenRun) (n : ℕ) (t : code.Token) → StandsAt (past n (pieces_of run)) t → IsIn run.text.now t

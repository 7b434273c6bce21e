-- Where tokens stand among those that are left.
use Rattle.std.specs.Prelude.{◌≡◌, ℕ, zero, suc, List, [], ◌∷◌, take, length, Some}
use Rattle.form_meanings.specs.Words.{first}
use Rattle.statement_model.specs.Tokens.{Token, without_first}
use Rattle.lefdef_tokens.specs.declared.token.Token as code
use Rattle.lefdef_tokens.specs.declared.token_run.TokenRun.{TokenRun}
use Rattle.lefdef_tokens.specs.TokenViews.{pieces_of, token_of, words_of}

-- what comes after so many tokens
abbrev pub past : ℕ → List Token → List Token
past zero ps = ps
past (suc n) ps = past n (without_first ps)

-- what comes after the tokens of these words
abbrev pub behind : List (List ℕ) → List Token → List Token
behind [] ps = ps
behind (w ∷ ws) ps = behind ws (without_first ps)

-- a token is the first of these
abbrev pub StandsAt : List Token → code.Token → Type 0
StandsAt ps t = first ps ≡ Some (token_of t)

-- a run is the first of these
abbrev pub RunAt : List Token → TokenRun → Type 0
RunAt ps run = pieces_of run ≡ take (length (words_of run)) ps

-- Laws of the bytes of tokens in a row.
use Rattle.std.specs.Prelude.{◌≡◌, ℕ, ◌+◌, List, ◌∷◌, ◌++◌, length, map, Ok}
use Rattle.std.specs.List.{slice_range}
use Rattle.statement_model.specs.Tokens.{Token, tokens}
use Rattle.statement_model.specs.Cuts.{end_of_all}
use Rattle.lefdef_tokens.specs.Laws.{moved_token}

-- where they stand from one place on, the bytes end at another, and their tokens are these
abbrev pub HasRun : ℕ → ℕ → List Token → List ℕ → Type 0
HasRun from to run bytes =
    (own : List Token)
    × (tokens bytes ≡ record { pieces = own; end = Ok (length bytes) })
    × (map (moved_token from) own ≡ run)
    × (from + length bytes ≡ to)

-- Tokens in a row of a text are those of their own bytes, from the first one's start to the last one's end, but for the
-- places.
abbrev pub RunsAreTexts : Type 0
RunsAreTexts = (text : List ℕ) (before run after : List Token) (p : Token)
    → (tokens text).pieces ≡ before ++ ((p ∷ run) ++ after)
    → HasRun p.pos (end_of_all (p ∷ run)) (p ∷ run) (slice_range text p.pos (end_of_all (p ∷ run)))

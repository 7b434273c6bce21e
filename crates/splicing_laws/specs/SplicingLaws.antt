-- Laws of the tokens of a text with other bytes put in.
use Rattle.std.specs.Prelude.{◌≡◌, ◌⊎◌, ◌≤◌, ◌<◌, ℕ, List, [], ◌∷◌, ◌++◌, length, drop, Ok}
use Rattle.std.specs.List.{slice_range}
use Rattle.statement_model.specs.Tokens.{Token, tokens, left_from}
use Rattle.statement_model.specs.Tokens.Open.{between}
use Rattle.statement_model.specs.Boundaries.{words}
use Rattle.statement_model.specs.Cuts.{end_of}
use Rattle.lefdef_tokens.specs.Laws.{state_after, IsClosed, BeginsApart}

-- bytes that are whole tokens, and end outside of comments and strings
pub record AreTokens (put : List ℕ) (ps : List Token) : Type 0 where
  pub pieces : (tokens put).pieces ≡ ps
  pub end : (tokens put).end ≡ Ok (length put)
  pub closed : IsClosed (state_after 0 between put)

-- a text with these tokens, wherever they stand, and no fault of them
pub record HasWords (text : List ℕ) (ws : List (List ℕ)) : Type 0 where
  pub words : words (tokens text).pieces ≡ ws
  pub end : (tokens text).end ≡ Ok (length text)

-- Where a token begins that stands after others, from a place between two tokens on: it is left there, and whatever comes
-- to stand in its place has its own words after those of the others.
pub record BeginsAt (text : List ℕ) (at n : ℕ) (first : List Token) (p : Token) (after : List Token) : Type 0 where
  pub forward : at ≤ p.pos
  pub within : p.pos ≤ length text
  pub apart : BeginsApart (drop at text) → at < p.pos
  pub left : left_from text p.pos ≡ record { pieces = p ∷ after; end = Ok n }
  pub front : (rest : List ℕ) (ws : List (List ℕ)) → HasWords rest ws → HasWords (slice_range text at p.pos ++ rest) (words first ++ ws)

-- Where it ends: those after it are left there, and so it is with what comes to stand there apart from it.
pub record EndsAt (text : List ℕ) (at n : ℕ) (first : List Token) (p : Token) (after : List Token) : Type 0 where
  pub forward : at ≤ end_of p
  pub within : end_of p ≤ length text
  pub left : left_from text (end_of p) ≡ record { pieces = after; end = Ok n }
  pub front : (rest : List ℕ) (ws : List (List ℕ)) → BeginsApart rest → HasWords rest ws
      → HasWords (slice_range text at (end_of p) ++ rest) (words (first ++ p ∷ []) ++ ws)

-- Each token of what is left of a text begins so, and ends so.
abbrev pub TokensBegin : Type 0
TokensBegin = (text : List ℕ) (at n : ℕ) (first after : List Token) (p : Token)
    → at ≤ length text
    → left_from text at ≡ record { pieces = first ++ p ∷ after; end = Ok n }
    → BeginsAt text at n first p after

abbrev pub TokensEnd : Type 0
TokensEnd = (text : List ℕ) (at n : ℕ) (first after : List Token) (p : Token)
    → at ≤ length text
    → left_from text at ≡ record { pieces = first ++ p ∷ after; end = Ok n }
    → EndsAt text at n first p after

-- Bytes that are whole tokens, and then a text that can't be glued to them, have the words of both.
abbrev pub TokensArePut : Type 0
TokensArePut = (put rest : List ℕ) (ps : List Token) (ws : List (List ℕ))
    → AreTokens put ps
    → (state_after 0 between put ≡ between) ⊎ BeginsApart rest
    → HasWords rest ws
    → HasWords (put ++ rest) (words ps ++ ws)

-- Laws of the bytes of a text that are in no token.
use Rattle.std.specs.Prelude.{◌≡◌, ◌≢◌, ◌⊎◌, ◌≤◌, ◌<◌, ℕ, ◌+◌, true, List, length, Ok, slice_index}
use Rattle.std.specs.List.{All}
use Rattle.statement_model.specs.Tokens.{Token, is_white, tokens}

-- a place inside of a token
abbrev pub IsInside : ℕ → Token → Type 0
IsInside k p = (p.pos ≤ k) × (k < p.pos + length p.bytes)

-- a place outside of these tokens
abbrev pub IsOutside : List Token → ℕ → Type 0
IsOutside ps k = All (λ p. IsInside k p → ⊥) ps

-- a place in a comment: at it or before it stands a #, with no line feed and no token from that on up to the place
pub record InComment (text : List ℕ) (k : ℕ) : Type 0 where
  pub start : ℕ
  pub before : start ≤ k
  pub hash : slice_index text start ≡ 35
  pub one_line : (i : ℕ) → start ≤ i → i ≤ k → slice_index text i ≢ 10
  pub no_token : (i : ℕ) → start ≤ i → i ≤ k → IsOutside (tokens text).pieces i

-- In a text without a fault of tokens, each byte outside of the tokens is white space or in a comment.
abbrev pub BlanksAreBetween : Type 0
BlanksAreBetween = (text : List ℕ) (n k : ℕ)
    → (tokens text).end ≡ Ok n
    → k < length text
    → IsOutside (tokens text).pieces k
    → (is_white (slice_index text k) ≡ true) ⊎ InComment text k

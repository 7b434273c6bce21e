-- How far white space, comments, words and strings go.
use Rattle.std.specs.Prelude.{◌≡◌, ◌≢◌, ℕ, ◌+◌, ◌-◌, ◌≤◌, ◌<◌, ◌↔◌, false, true, slice_index, MatchOption, Bool, not, ◌&&◌, ◌||◌, ◌==◌, nat_le, List, [], ◌∷◌, length, Option, Result, Ok, MatchResult, if◌then◌else◌}
use Rattle.std.specs.Int.{bit_at}
use Rattle.std.specs.List.{slice_range}
use Rattle.memchr.specs.Find.{Nowhere, Passes, is_byte}
use Rattle.statement_model.specs.Tokens.{Token, is_white, is_refused, closes, before, left_from, only_fault}
use Rattle.design_model.specs.declared.fault.Fault.{Fault}
use Rattle.design_model.specs.declared.token_kind.TokenKind.{TokenKind}
use Rattle.design_model.specs.declared.token_kind.TokenKind.TheVariants.{Word, Quoted}

-- From a place between two tokens on, reading comes to the returned place of the text, also between two tokens, after the
-- given tokens; or to nothing but the fault.
abbrev pub GoesTo : List ℕ → ℕ → (ℕ → List Token) → Result ℕ Fault → Type 0
GoesTo text from given r =
    MatchResult r
    (λ end. (from ≤ end) × (end ≤ length text) × (left_from text from ≡ before (given end) (left_from text end)))
    (λ f. left_from text from ≡ only_fault f)

-- end is the first line end from a place on, or the text's length
pub record IsLineEnd (text : List ℕ) (from end : ℕ) : Type 0 where
  pub low : from ≤ end
  pub high : end ≤ length text
  pub inside : Nowhere (Passes (is_byte 10) text) from end
  pub here : end < length text → slice_index text end ≡ 10

-- no byte from i up to j ends a string
abbrev pub GoesOn : List ℕ → ℕ → ℕ → Type 0
GoesOn text i j = (k : ℕ) → i ≤ k → k < j → closes (slice_index text (k - 1)) (slice_index text k) ≡ false

-- quote ends the string that begins at start
pub record Closes (text : List ℕ) (start quote : ℕ) : Type 0 where
  pub low : start < quote
  pub high : quote < length text
  pub inside : GoesOn text (start + 1) quote
  pub here : slice_index text quote ≡ 34
  pub free : slice_index text (quote - 1) ≢ 92

-- the quote that ends the string that begins at start, if there is one
abbrev pub IsClosing : List ℕ → ℕ → Option ℕ → Type 0
IsClosing text start r = MatchOption r (GoesOn text (start + 1) (length text)) (λ quote. Closes text start quote)

-- the byte begins a token
abbrev pub begins : ℕ → Bool
begins b = not (is_refused b) && not (is_white b) && not (b == 35)

-- the word, or the string, from start up to end
abbrev pub piece_at : TokenKind → List ℕ → ℕ → ℕ → Token
piece_at kind text start end = record { kind = kind; bytes = slice_range text start end; pos = start }

-- a token that stands from start up to end: a string where its first byte is a quote
abbrev pub token_from : List ℕ → ℕ → ℕ → Token
token_from text start end = piece_at (if slice_index text start == 34 then Quoted else Word) text start end

-- the first token from a place between two tokens on stands from start up to end
pub record ComesFirst (text : List ℕ) (from start end : ℕ) : Type 0 where
  pub low : from ≤ start
  pub some : start < end
  pub high : end ≤ length text
  pub left : left_from text from ≡ before (token_from text start end ∷ []) (left_from text end)

-- from a place between two tokens on there is no token, one that stands from here to there, or a fault
abbrev pub FirstStands : List ℕ → ℕ → Result (Option (ℕ × ℕ)) Fault → Type 0
FirstStands text from r =
    MatchResult r
    (λ found. MatchOption found (left_from text from ≡ record { pieces = []; end = Ok (length text) }) (λ x. ComesFirst text from x.0 x.1))
    (λ f. left_from text from ≡ only_fault f)

-- the byte is at most low, or delete: a word goes on at any other byte where low is 32, and a comment where it is 31
abbrev pub stops : ℕ → ℕ → Bool
stops low b = nat_le b low || b == 127

-- v has 16 lanes, and lane k holds f k
pub record HasLanes (v : List ℕ) (f : ℕ → ℕ) : Type 0 where
  pub long : length v ≡ 16
  pub each : (k : ℕ) → k < 16 → slice_index v k ≡ f k

-- of the 16 bytes from a place on, a mark is set for each that stops
abbrev pub Marks : ℕ → List ℕ → ℕ → ℕ → Type 0
Marks low text at marks = (k : ℕ) → (bit_at marks k ≡ 1) ↔ ((k < 16) × (stops low (slice_index text (at + k)) ≡ true))

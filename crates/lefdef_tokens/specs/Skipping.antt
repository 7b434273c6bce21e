-- Words that are gone over many bytes at a time.
use Rattle.std.specs.Prelude.{◌≡◌, ◌≤◌, ◌<◌, ◌+◌, ◌-◌, ℕ, Bool, true, false, not, ◌&&◌, ◌||◌, ◌==◌, nat_le, List, length, slice_index}
use Rattle.std.specs.List.{All}
use Rattle.statement_model.specs.Tokens.{Token, before, is_white, left_from}
use Rattle.form_meanings.specs.Words.{is_semicolon}

-- From one place between two tokens to another stand n tokens, none of which is a semicolon.
pub record Skips (text : List ℕ) (from to n : ℕ) : Type 0 where
  pub passed : List Token
  pub many : length passed ≡ n
  pub goes : left_from text from ≡ before passed (left_from text to)
  pub plain : All (λ p. is_semicolon p.bytes ≡ false) passed

-- a byte that is neither white space nor always a part of a word: the refused ones, `"`, `#` and `;`, and `!` with them
abbrev pub is_special : ℕ → Bool
is_special b = (nat_le b 35 && not (is_white b)) || b == 127 || b == 59

-- a word begins at a byte, by the byte before it, where neither is special
abbrev pub begins_after : ℕ → ℕ → Bool
begins_after last b = nat_le last 32 && not (nat_le b 32)

-- a word begins at this place of a text
abbrev pub begins_at : List ℕ → ℕ → Bool
begins_at text at = begins_after (slice_index text (at - 1)) (slice_index text at)

-- start is where the word begins that goes on at a place after from, or that place where no word is open there
pub record IsWordStart (text : List ℕ) (from at start : ℕ) : Type 0 where
  pub low : from < start
  pub high : start ≤ at
  pub apart : is_white (slice_index text (start - 1)) ≡ true
  pub whole : (k : ℕ) → start ≤ k → k < at → is_white (slice_index text k) ≡ false

-- From a white byte to a place at stand some tokens, and then the word that is open at that place, if one is: with it count
-- words begin there. No byte of the open word is special.
pub record HasBegun (text : List ℕ) (from at count : ℕ) : Type 0 where
  pub within : at ≤ length text
  pub start : ℕ
  pub opens : IsWordStart text from at start
  pub before : ℕ
  pub skips : Skips text from start before
  pub few : from + before < start
  pub apart : start ≡ at → count ≡ before
  pub inside : start < at → count ≡ before + 1
  pub plain : (k : ℕ) → start ≤ k → k < at → is_special (slice_index text k) ≡ false

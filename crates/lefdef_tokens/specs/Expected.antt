-- Words of a kind that is expected.
use Rattle.std.specs.Prelude.{◌≡◌, ◌≤◌, ◌<◌, ◌+◌, ℕ, true, List, slice_index}
use Rattle.std.specs.Char.{is_ascii_digit}
use Rattle.lefdef_tokens.specs.Runs.{ComesFirst}

-- the first token from a place on has one to nine bytes, and each is a digit
pub record DigitsStand (text : List ℕ) (from start end : ℕ) : Type 0 where
  pub comes : ComesFirst text from start end
  pub few : end ≤ start + 9
  pub digits : (k : ℕ) → start ≤ k → k < end → is_ascii_digit (slice_index text k) ≡ true

-- the first token from a place on is this byte
pub record MarkStands (mark : ℕ) (text : List ℕ) (from start end : ℕ) : Type 0 where
  pub comes : ComesFirst text from start end
  pub one : end ≡ start + 1
  pub here : slice_index text start ≡ mark

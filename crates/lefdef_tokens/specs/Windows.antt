-- Blanks among the next bytes of a text.
use Rattle.std.specs.Prelude.{◌≡◌, ◌↔◌, ◌<◌, ◌≤◌, ◌+◌, ℕ, List, length, slice_index}
use Rattle.std.specs.Int.{bit_at}

-- of the 32 bytes from a place on, a mark is set for each that is a blank or below one
abbrev pub LowMarks : List ℕ → ℕ → ℕ → Type 0
LowMarks text at marks = (k : ℕ) → (bit_at marks k ≡ 1) ↔ ((k < 32) × (slice_index text (at + k) ≤ 32))

-- end is the first place after start whose byte is a blank or below one
pub record IsNextLow (text : List ℕ) (start end : ℕ) : Type 0 where
  pub after : start < end
  pub within : end < length text
  pub inside : (k : ℕ) → start < k → k < end → 32 < slice_index text k
  pub here : slice_index text end ≤ 32

-- Windows on a text: bytes with an edit in them, and segments behind them.
use Rattle.std.specs.Prelude.{◌≡◌, ◌+◌, ◌-◌, ◌≤◌, ◌<◌, ℕ, List, ◌++◌, length, take}
use Rattle.rereading.specs.Segments.{OldBytes, bytes_of}

-- a window is the raw bytes and then so many segments
pub record Holds (raw : List ℕ) (segments : List OldBytes) (used : ℕ) (window : List ℕ) : Type 0 where
  pub within : used ≤ length segments
  pub is : window ≡ raw ++ bytes_of (take used segments)

-- the last of so many segments behind raw bytes begins before a position
abbrev pub IsTight : List ℕ → List OldBytes → ℕ → ℕ → Type 0
IsTight raw segments used pos = 0 < used → length raw + length (bytes_of (take (used - 1) segments)) < pos

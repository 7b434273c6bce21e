-- Which columns, or rows, a stretch covers.
use Rattle.std.specs.Prelude.{◌≡◌, ◌≤◌, ◌<◌, ◌+◌, ℕ, zero, suc, Bool, true, false, List, [], ◌∷◌, length, ℤ}
use Rattle.std.specs.Int.Signed.{lt_z}
use Rattle.std.specs.List.Sorted.{IsPartitionPoint}
use Rattle.cell_sums.specs.Lines.{common_length, is_from, width}
use Rattle.cell_sums.specs.declared.stretch.Neighbours.{Neighbours}

-- there is a line of a number, and it lies before a place
abbrev pub is_before : List ℤ → ℤ → ℕ → Bool
is_before [] place i = false
is_before (l ∷ ls) place zero = lt_z l place
is_before (l ∷ ls) place (suc i) = is_before ls place i

-- so many lines, from the first on, lie before a place
abbrev pub AreBefore : List ℤ → ℤ → ℕ → Type 0
AreBefore ls place count = IsPartitionPoint (λ l. lt_z l place ≡ true) (λ l. lt_z l place ≡ false) ls count

-- columns from one up to another, where there are some, are there, and those between the first and the last lie in a stretch as a whole
pub record AreFull (ls : List ℤ) (low high : ℤ) (first end : ℕ) : Type 0 where
  pub inside : (i : ℕ) → first < i → i + 1 < end → common_length ls low high i ≡ width ls i
  pub within : first < end → end < length ls

-- no column outside of them has length in common with it
pub record IsCovered (ls : List ℤ) (low high : ℤ) (first end : ℕ) : Type 0 where
  pub ordered : first ≤ end
  pub outside : (i : ℕ) → is_from first end i ≡ false → common_length ls low high i ≡ 0
  pub full : AreFull ls low high first end

-- two neighbours among columns are all that a stretch covers, and have these lengths in common with it
pub record HoldAll (ls : List ℤ) (n : Neighbours) : Type 0 where
  pub covered : IsCovered ls n.stretch.low n.stretch.high n.first (n.first + 2)
  pub length : n.length ≡ common_length ls n.stretch.low n.stretch.high n.first
  pub next_length : n.next_length ≡ common_length ls n.stretch.low n.stretch.high (n.first + 1)

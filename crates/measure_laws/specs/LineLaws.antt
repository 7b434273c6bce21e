-- Laws of the lines of a grid.
use Rattle.std.specs.Prelude.{◌≡◌, ◌↔◌, ℕ, ◌+◌, Bool, List, [], ◌∷◌, Some, ℤ, ◌<ℤ◌}
use Rattle.std.specs.List.{Contains, list_any, slice_get}
use Rattle.form_meanings.specs.Words.{◌>>=◌}
use Rattle.measure_rules.specs.GridCells.{between, in_order}

-- lines that rise strictly, from above another line on
abbrev pub RiseFrom : ℤ → List ℤ → Type 0
RiseFrom before [] = Unit {0}
RiseFrom before (l ∷ ls) = (before <ℤ l) × RiseFrom l ls

-- lines that rise strictly
abbrev pub Rise : List ℤ → Type 0
Rise [] = Unit {0}
Rise (l ∷ ls) = RiseFrom l ls

-- the same lines, however often: what holds of one of the first holds of one of the others, and the other way round
pub record HasSameLines (ls ms : List ℤ) : Type 0 where
  pub any : (test : ℤ → Bool) → list_any test ls ≡ list_any test ms

-- Lines in order rise strictly, and are the lines that there were.
abbrev pub LinesAreInOrder : Type 0
LinesAreInOrder = (ls : List ℤ) → Rise (in_order ls) × HasSameLines (in_order ls) ls

-- Lines that rise strictly, and are the same lines, are these in order.
abbrev pub OrderIsOne : Type 0
OrderIsOne = (ls ms : List ℤ) → Rise ls → HasSameLines ls ms → ls ≡ in_order ms

-- Lines are the same just where each of the first is among the others, and the other way round.
abbrev pub SameByMembers : Type 0
SameByMembers = (ls ms : List ℤ) → HasSameLines ls ms ↔ ((z : ℤ) → Contains ls z ↔ Contains ms z)

-- The neighbours of a number are the line of that number and the next one, where there are both.
abbrev pub NeighboursAreNext : Type 0
NeighboursAreNext = (ls : List ℤ) (n : ℕ) → between ls n ≡ (slice_get ls n >>= λ l. (slice_get ls (n + 1) >>= λ m. Some (l, m)))

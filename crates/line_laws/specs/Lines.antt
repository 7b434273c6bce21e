-- Lines and things without their order.
use Rattle.std.specs.Prelude.{◌≡◌, ℕ, List, sum_by, count_by}
use Rattle.std.specs.Str.{bytes_eq}

-- how often a line stands in a list
abbrev pub times : List ℕ → List (List ℕ) → ℕ
times q lines = count_by (bytes_eq q) lines

-- two lists have the same lines, each as often, in whatever order
pub record SameLines (xs ys : List (List ℕ)) : Type 0 where
  pub often : (q : List ℕ) → times q xs ≡ times q ys

-- two lists have the same things, each as often: each sum over them is the same
pub record SameThings {A : Type 0} (xs ys : List A) : Type 0 where
  pub sums : (w : A → ℕ) → sum_by w xs ≡ sum_by w ys

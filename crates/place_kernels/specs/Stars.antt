-- The parts of a pattern between its stars, and where they stand in a name.
use Rattle.std.specs.Prelude.{◌≡◌, ◌≢◌, ◌≤◌, ℕ, List, ◌∷◌, ◌++◌, length, All}
use Rattle.place_rules.specs.Patterns.{star}

abbrev pub Starless : List ℕ → Type 0
Starless bytes = All (λ b. b ≢ star) bytes

-- the bytes before the first star of a pattern, and those after it
pub record IsSplitAtStar (pattern front after : List ℕ) : Type 0 where
  pub is : pattern ≡ front ++ (star ∷ after)
  pub starless : Starless front

-- what is left of a name after the first place of a part: no place leaves more
pub record IsAfterFirst (name part rest : List ℕ) : Type 0 where
  pub before : List ℕ
  pub is : name ≡ before ++ (part ++ rest)
  pub first : (x y : List ℕ) → name ≡ x ++ (part ++ y) → length y ≤ length rest

abbrev pub StandsNowhere : List ℕ → List ℕ → Type 0
StandsNowhere name part = (x y : List ℕ) → name ≢ x ++ (part ++ y)

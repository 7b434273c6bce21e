-- Names that a pattern means: each `*` of it stands for any bytes, also none, and each other byte for itself.
use Rattle.std.specs.Prelude.{ℕ, Bool, true, false, ◌&&◌, ◌==◌, List, [], ◌∷◌, if◌then◌else◌}
use Rattle.std.specs.List.{list_any}

-- a list, and what is left of it after each of its fronts
abbrev pub tails : List ℕ → List (List ℕ)
tails [] = [] ∷ []
tails (b ∷ bs) = (b ∷ bs) ∷ tails bs

-- a list begins with a byte, and the rest passes a test
abbrev pub byte_then : ℕ → (List ℕ → Bool) → List ℕ → Bool
byte_then p test [] = false
byte_then p test (b ∷ bs) = p == b && test bs

abbrev pub star : ℕ
star = 42

-- whether a name matches a pattern: at a star, with some part of the name taken for it
unfoldable pub matches : List ℕ → List ℕ → Bool
matches [] [] = true
matches [] (b ∷ bs) = false
matches (p ∷ ps) name = if p == star then list_any (matches ps) (tails name) else byte_then p (matches ps) name

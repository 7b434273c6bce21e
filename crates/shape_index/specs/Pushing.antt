-- A list that grows at its end while memory lasts.
use Rattle.std.specs.Prelude.{◌≡◌, List, [], ◌∷◌, ◌++◌, Result, Ok, Err}

-- a list is what stood and one thing behind it; where memory was refused before, there is none
abbrev pub Pushes : {V E X : Type 0} → (V → List X) → Result V E → X → List X → Type 0
Pushes items (Ok v) x ys = ys ≡ items v ++ x ∷ []
Pushes items (Err e) x ys = ⊥

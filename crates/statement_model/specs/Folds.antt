-- Going over a list with a state, up to the first fault.
use Rattle.std.specs.Prelude.{◌≡◌, List, [], ◌∷◌, ◌++◌, Result, Ok, Err}

infixl 10 ◌>>◌
abbrev pub ◌>>◌ : {A B F : Type 0} → Result A F → (A → Result B F) → Result B F
(Ok x) >> f = f x
(Err e) >> f = Err e

module _ {M T R F : Type 0} (step : M → T → Result (R × M) F) where
  -- what the steps give in order, and the state after them; or the first fault
  unfoldable pub all_from : M → List T → Result (List R × M) F
  all_from m [] = Ok ([], m)
  all_from m (t ∷ ts) = step m t >> λ x. (all_from x.1 ts >> λ y. Ok (x.0 ∷ y.0, y.1))

  -- Of a list and then more, they are those of the list, and then those of the rest from the state after it.
  abbrev pub FoldsJoin : Type 0
  FoldsJoin = (m : M) (xs ys : List T) → all_from m (xs ++ ys) ≡ (all_from m xs >> λ x. (all_from x.1 ys >> λ y. Ok (x.0 ++ y.0, y.1)))

-- Families of lines: those of all pairs of things in a list, or in two (own).
use Rattle.std.specs.Prelude.{ℕ, List, [], ◌∷◌, ◌++◌, flat_map}

module _ {A : Type 0} (compare : A → A → List (List ℕ)) where
  -- the lines of one thing with each of others
  abbrev pub lines_with : A → List A → List (List ℕ)
  lines_with x ys = flat_map (compare x) ys

  -- the lines of all pairs, the earlier thing first
  abbrev pub pair_lines : List A → List (List ℕ)
  pair_lines [] = []
  pair_lines (x ∷ xs) = lines_with x xs ++ pair_lines xs

module _ {A B : Type 0} (compare : A → B → List (List ℕ)) where
  -- the lines of each thing of a list with each of another
  abbrev pub cross_lines : List A → List B → List (List ℕ)
  cross_lines xs ys = flat_map (λ x. flat_map (compare x) ys) xs

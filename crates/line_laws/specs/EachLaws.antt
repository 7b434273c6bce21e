-- Laws of the lines of each thing in a list, and of those of each with each of another list.
use Rattle.std.specs.Prelude.{ℕ, List, flat_map}
use Rattle.design_model.specs.Families.{cross_lines}
use Rattle.line_laws.specs.Lines.{SameLines, SameThings}

-- The lines of each thing don't hang on the order of the things.
abbrev pub EachIsUnordered : Type 0 → Type 0
EachIsUnordered A = (f : A → List (List ℕ)) (xs ys : List A) → SameThings xs ys → SameLines (flat_map f xs) (flat_map f ys)

-- The lines of each thing with each other don't hang on the order of either.
abbrev pub CrossesAreUnordered : Type 0 → Type 0 → Type 0
CrossesAreUnordered A B = (f : A → B → List (List ℕ)) (xs ys : List A) (zs ws : List B) → SameThings xs ys → SameThings zs ws
    → SameLines (cross_lines f xs zs) (cross_lines f ys ws)

-- They are the same with the two lists' roles exchanged.
abbrev pub CrossesTurn : Type 0 → Type 0 → Type 0
CrossesTurn A B = (f : A → B → List (List ℕ)) (xs : List A) (zs : List B) → SameLines (cross_lines f xs zs) (cross_lines (λ z x. f x z) zs xs)

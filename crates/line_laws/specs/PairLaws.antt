-- Laws of the lines of all pairs of things.
use Rattle.std.specs.Prelude.{ℕ, List}
use Rattle.design_rules.specs.Boxes.{Boxed}
use Rattle.design_model.specs.Families.{pair_lines}
use Rattle.design_rules.specs.OverlapLines.{overlap_of}
use Rattle.line_laws.specs.Lines.{SameLines, SameThings}

-- the lines of two things don't hang on which is first
abbrev pub IsSymmetric : {A : Type 0} → (A → A → List (List ℕ)) → Type 0
IsSymmetric {A = A} compare = (x y : A) → SameLines (compare x y) (compare y x)

-- The lines of all pairs don't hang on the order of the things.
abbrev pub PairsAreUnordered : Type 0 → Type 0
PairsAreUnordered A = (compare : A → A → List (List ℕ)) (xs ys : List A) → IsSymmetric compare → SameThings xs ys → SameLines (pair_lines compare xs) (pair_lines compare ys)

-- The lines of two components are of that kind.
abbrev pub OverlapsAreSymmetric : Type 0
OverlapsAreSymmetric = IsSymmetric overlap_of

-- So the lines on overlaps don't hang on the order of the boxes.
abbrev pub OverlapLinesAreUnordered : Type 0
OverlapLinesAreUnordered = (xs ys : List Boxed) → SameThings xs ys → SameLines (pair_lines overlap_of xs) (pair_lines overlap_of ys)

-- Laws of lines and of things without their order.
use Rattle.std.specs.Prelude.{ℕ, List, ◌++◌, map, IsPermutation}
use Rattle.line_laws.specs.Lines.{SameLines, SameThings}

-- Each list has the lines that it has.
abbrev pub LinesAreTheirOwn : Type 0
LinesAreTheirOwn = (xs : List (List ℕ)) → SameLines xs xs

-- Which of two lists comes first makes no difference.
abbrev pub SameLinesTurn : Type 0
SameLinesTurn = (xs ys : List (List ℕ)) → SameLines xs ys → SameLines ys xs

-- Lists with the lines of one have the same lines.
abbrev pub SameLinesChain : Type 0
SameLinesChain = (xs ys zs : List (List ℕ)) → SameLines xs ys → SameLines ys zs → SameLines xs zs

-- Two lists with the same lines, each put before such a one, have the same lines.
abbrev pub SameLinesAppend : Type 0
SameLinesAppend = (xs ys zs ws : List (List ℕ)) → SameLines xs ys → SameLines zs ws → SameLines (xs ++ zs) (ys ++ ws)

-- Which of two parts comes first makes no difference.
abbrev pub PartsTurn : Type 0
PartsTurn = (xs ys : List (List ℕ)) → SameLines (xs ++ ys) (ys ++ xs)

-- A permutation has the same things.
abbrev pub PermutationsAreSame : Type 0 → Type 0
PermutationsAreSame A = (xs ys : List A) → IsPermutation xs ys → SameThings xs ys

-- What a function gives of the same things is the same.
abbrev pub MapsAreSame : Type 0 → Type 0 → Type 0
MapsAreSame A B = (f : A → B) (xs ys : List A) → SameThings xs ys → SameThings (map f xs) (map f ys)

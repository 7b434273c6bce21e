-- Laws of lists of texts in the order of their bytes.
use Rattle.std.specs.Prelude.{◌≡◌, ℕ, List, IsPermutation}
use Rattle.design_model.specs.Order.{sorted_by_bytes, IsSortOf}
use Rattle.line_laws.specs.Lines.{SameLines}

-- The sorted list has the same lines, in order, and lists with the same lines give the same, whatever their order.
abbrev pub SortingIsByLines : Type 0
SortingIsByLines = ((xs : List (List ℕ)) → IsSortOf xs (sorted_by_bytes xs))
    × ((xs ys : List (List ℕ)) → IsPermutation xs ys → sorted_by_bytes xs ≡ sorted_by_bytes ys)

-- So do lists that have each line as often.
abbrev pub SameLinesSortAlike : Type 0
SameLinesSortAlike = (xs ys : List (List ℕ)) → SameLines xs ys → sorted_by_bytes xs ≡ sorted_by_bytes ys

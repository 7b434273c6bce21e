-- Lists of texts in the order of their bytes.
use Rattle.std.specs.Prelude.{ℕ, List, [], ◌∷◌, cond, if◌then◌else◌, map, IsPermutation, IsSorted}
use Rattle.std.specs.Cmp.Lexicographic.{slice_cmp}
use Rattle.std.specs.Ordering.{nat_cmp, is_lt}
use Rattle.std.specs.declared.cmp.Ordering.{Ordering}
use Rattle.design_model.specs.declared.diagnostic.DiagLine.{DiagLine}

-- the order of two texts by bytes
abbrev pub byte_cmp : List ℕ → List ℕ → Ordering
byte_cmp = slice_cmp nat_cmp

-- the one of two texts that comes first in that order, and the other
abbrev pub lesser : List ℕ → List ℕ → List ℕ
lesser a b = if is_lt (byte_cmp b a) then b else a

abbrev pub greater : List ℕ → List ℕ → List ℕ
greater a b = if is_lt (byte_cmp b a) then a else b

-- a text put into a list in order, before those that are not below it
abbrev pub put_in_order : List ℕ → List (List ℕ) → List (List ℕ)
put_in_order x [] = x ∷ []
put_in_order x (y ∷ ys) = cond (is_lt (byte_cmp y x)) (y ∷ put_in_order x ys) (x ∷ y ∷ ys)

-- the list in the order of bytes, repeats kept
abbrev pub sorted_by_bytes : List (List ℕ) → List (List ℕ)
sorted_by_bytes [] = []
sorted_by_bytes (x ∷ xs) = put_in_order x (sorted_by_bytes xs)

-- the same list in the order of bytes, as a relation
pub record IsSortOf (xs ys : List (List ℕ)) : Type 0 where
  pub same : IsPermutation xs ys
  pub sorted : IsSorted byte_cmp ys

-- the text of each line
abbrev pub texts : {A : Type 0} → List (DiagLine A) → List (List ℕ)
texts = map (λ l. l.text)

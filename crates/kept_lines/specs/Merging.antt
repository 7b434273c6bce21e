-- Lists in the order of their bytes that become one (own).
use Rattle.std.specs.Prelude.{ℕ, List, [], ◌∷◌, cond, drop}
use denote.Ref.{Bor}
use Rattle.std.specs.Ordering.{is_lt}
use Rattle.design_model.specs.declared.diagnostic.DiagLine.{DiagLine}
use Rattle.design_model.specs.Order.{byte_cmp}

-- Both lists in one: of what they begin with the lesser by its text comes first, and that of the first list where both are alike.
abbrev pub merge : {X : Type 0} → (X → List ℕ) → List X → List X → List X
merge text [] ys = ys
merge text (x ∷ xs) [] = x ∷ xs
merge text (x ∷ xs) (y ∷ ys) = cond (is_lt (byte_cmp (text y) (text x))) (y ∷ merge text (x ∷ xs) ys) (x ∷ merge text xs (y ∷ ys))

-- what is left of two lists of lines, in one
abbrev pub left_of : {A : Type 0} → List (Bor (DiagLine A)) → List (Bor (DiagLine A)) → ℕ → ℕ → List (Bor (DiagLine A))
left_of first second i j = merge (λ l. l.now.text) (drop i first) (drop j second)

-- The last of a list, and the others.
use Rattle.std.proofs.Common.{◌≡◌, List, [], ◌∷◌, ◌++◌, refl, ap₂}
use Rattle.std.specs.List.{AllByRecursion}

-- all of some, and one more
pub all_before : {A : Type 0} (P : A → Type 0) (xs : List A) (x : A) → AllByRecursion P (xs ++ x ∷ []) → AllByRecursion P xs × P x
all_before P [] x h = (tt, h.0)
all_before P (y ∷ xs) x h = let later = all_before P xs x h.1 in ((h.0, later.0), later.1)

-- the last of two lists that are the same
none_last : {A : Type 0} (xs : List A) (x : A) → [] ≡ xs ++ x ∷ [] → ⊥
none_last [] x h = cc
none_last (y ∷ xs) x h = cc

pub same_last : {A : Type 0} (xs ys : List A) (x y : A) → xs ++ x ∷ [] ≡ ys ++ y ∷ [] → (xs ≡ ys) × (x ≡ y)
same_last {A = A} [] [] x y h = (refl, cc)
same_last {A = A} [] (z ∷ ys) x y h = absurd (none_last ys y (cc))
same_last {A = A} (z ∷ xs) [] x y h = absurd (none_last xs x (cc))
same_last {A = A} (z ∷ xs) (v ∷ ys) x y h =
    let later = same_last xs ys x y (cc) in
    let here : z ≡ v = cc in
    (ap₂ (λ (a : A) (l : List A). a ∷ l) here later.0, later.1)

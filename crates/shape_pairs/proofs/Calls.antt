-- Calls over the parts of a list, and over what a test leaves of one.
use Rattle.std.proofs.Common.{◌≡◌, Bool, true, false, List, [], ◌∷◌, ◌++◌, filter, refl, sym, ap, subst}
use Rattle.std.specs.List.{FoldsTo}
use Rattle.shape_pairs.specs.Pairs.{one_if}

pub split : {P : Type 0} (b : Bool) → (b ≡ true → P) → (b ≡ false → P) → P
split true first second = first refl
split false first second = second refl

-- first some, then others
pub folds_append : {B A : Type 0} (R : B → A → B → Type 0) (a b c : B) (xs ys : List A) → FoldsTo R a xs b → FoldsTo R b ys c → FoldsTo R a (xs ++ ys) c
folds_append R a b c [] ys f g = subst (λ q. FoldsTo R q ys c) (sym f) g
folds_append R a b c (x ∷ xs) ys f g = (f.0, f.1, folds_append R f.0 b c xs ys f.2 g)

-- what a test leaves of a list
pub filter_append : {A : Type 0} (p : A → Bool) (xs ys : List A) → filter p (xs ++ ys) ≡ filter p xs ++ filter p ys
filter_append p [] ys = refl
filter_append p (x ∷ xs) ys =
    let r = filter_append p xs ys in
    split (p x) (λ t. rw t (ap (λ zs. x ∷ zs) r)) (λ t. rw t r)

pub filter_one : {A : Type 0} (p : A → Bool) (x : A) (xs : List A) → filter p (x ∷ xs) ≡ one_if (p x) x ++ filter p xs
filter_one p x xs = split (p x) (λ t. rw t refl) (λ t. rw t refl)

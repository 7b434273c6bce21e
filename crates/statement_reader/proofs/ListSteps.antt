-- One more item of a list.
use Rattle.std.proofs.Common.{◌≡◌, ℕ, zero, suc, ◌+◌, List, [], ◌∷◌, ◌++◌, take, drop, refl, ap, add-one}

take_suc : {A : Type 0} (xs : List A) (n : ℕ) (p : A) (ps : List A) → drop n xs ≡ p ∷ ps → take (suc n) xs ≡ take n xs ++ p ∷ []
take_suc [] zero p ps h = cc
take_suc [] (suc n) p ps h = cc
take_suc (x ∷ xs) zero p ps h = let same : x ≡ p = cc in rw same refl
take_suc (x ∷ xs) (suc n) p ps h = ap (λ ys. x ∷ ys) (take_suc xs n p ps h)

drop_suc : {A : Type 0} (xs : List A) (n : ℕ) (p : A) (ps : List A) → drop n xs ≡ p ∷ ps → drop (suc n) xs ≡ ps
drop_suc [] zero p ps h = cc
drop_suc [] (suc n) p ps h = cc
drop_suc (x ∷ xs) zero p ps h = cc
drop_suc (x ∷ xs) (suc n) p ps h = drop_suc xs n p ps h

pub take_more : {A : Type 0} (xs : List A) (n : ℕ) (p : A) (ps : List A) → drop n xs ≡ p ∷ ps → take (n + 1) xs ≡ take n xs ++ p ∷ []
take_more xs n p ps h = rw add-one (take_suc xs n p ps h)

pub drop_more : {A : Type 0} (xs : List A) (n : ℕ) (p : A) (ps : List A) → drop n xs ≡ p ∷ ps → drop (n + 1) xs ≡ ps
drop_more xs n p ps h = rw add-one (drop_suc xs n p ps h)

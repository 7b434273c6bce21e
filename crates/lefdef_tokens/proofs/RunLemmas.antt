-- Lists and texts' words, item by item.
use Rattle.std.proofs.Common.{◌≡◌, ℕ, zero, suc, ◌+◌, Bool, true, false, List, [], ◌∷◌, ◌++◌, take, drop, refl, sym, ap, ◌∙◌, append_assoc, take-append-drop, add-one, Some, None}
use Rattle.std.specs.List.{slice_get}
use Rattle.std.proofs.lemmas.List.{append-nil}
use Rattle.form_meanings.specs.Words.{split_at}

pub take_suc : {A : Type 0} (xs : List A) (n : ℕ) (p : A) (ps : List A) → drop n xs ≡ p ∷ ps → take (suc n) xs ≡ take n xs ++ p ∷ []
take_suc [] zero p ps h = cc
take_suc [] (suc n) p ps h = cc
take_suc (x ∷ xs) zero p ps h = let same : x ≡ p = cc in rw same refl
take_suc (x ∷ xs) (suc n) p ps h = ap (λ ys. x ∷ ys) (take_suc xs n p ps h)

drop_suc : {A : Type 0} (xs : List A) (n : ℕ) (p : A) (ps : List A) → drop n xs ≡ p ∷ ps → drop (suc n) xs ≡ ps
drop_suc [] zero p ps h = cc
drop_suc [] (suc n) p ps h = cc
drop_suc (x ∷ xs) zero p ps h = cc
drop_suc (x ∷ xs) (suc n) p ps h = drop_suc xs n p ps h

pub drop_on : {A : Type 0} (ys : List A) (n m : ℕ) (p : A) (ps : List A) → n ≡ suc m → ys ≡ p ∷ ps → drop n ys ≡ drop m ps
drop_on ys n m p ps more is = rw (more, is) refl

-- the item after n others
pub item_none : {A : Type 0} (xs : List A) (n : ℕ) → drop n xs ≡ [] → slice_get xs n ≡ None
item_none [] zero h = refl
item_none [] (suc n) h = refl
item_none (x ∷ xs) zero h = cc
item_none (x ∷ xs) (suc n) h = item_none xs n h

pub item_some : {A : Type 0} (xs : List A) (n : ℕ) (p : A) (ps : List A) → drop n xs ≡ p ∷ ps → slice_get xs n ≡ Some p
item_some [] zero p ps h = cc
item_some [] (suc n) p ps h = cc
item_some (x ∷ xs) zero p ps h = let same : x ≡ p = cc in rw same refl
item_some (x ∷ xs) (suc n) p ps h = item_some xs n p ps h

abbrev with_front : List (List ℕ) → List (List ℕ) × List (List ℕ) → List (List ℕ) × List (List ℕ)
with_front front g = (front ++ g.0, g.1)

-- of some words n are passed, none of which ends the part, and these are left
pub record Going (t : List ℕ → Bool) (xs : List (List ℕ)) (n : ℕ) (left : List (List ℕ)) : Type 0 where
  pub behind : drop n xs ≡ left
  pub split : split_at t xs ≡ with_front (take n xs) (split_at t left)

pub going_on : (t : List ℕ → Bool) (xs ys : List (List ℕ)) (n : ℕ) (p : List ℕ) (ps : List (List ℕ)) → ys ≡ p ∷ ps → t p ≡ false → Going t xs n ys → Going t xs (n + 1) ps
unfolding split_at
going_on t xs ys n p ps is goes_on g =
    let left : drop n xs ≡ p ∷ ps = g.behind ∙ is in
    record {
      behind = rw add-one (drop_suc xs n p ps left);
      split = g.split ∙ rw (is, add-one, take_suc xs n p ps left, goes_on) (ap (λ (front : List (List ℕ)). (front, (split_at t ps).1)) (sym (append_assoc (take n xs) (p ∷ []) (split_at t ps).0)));
    }

pub going_stops : (t : List ℕ → Bool) (xs ys : List (List ℕ)) (n : ℕ) (p : List ℕ) (ps : List (List ℕ)) → ys ≡ p ∷ ps → t p ≡ true → Going t xs n ys → split_at t xs ≡ (take n xs, ys)
unfolding split_at
going_stops t xs ys n p ps is stop g =
    g.split ∙ rw (is, stop) (ap (λ (front : List (List ℕ)). (front, p ∷ ps)) (append-nil (take n xs)))

pub going_ends : (t : List ℕ → Bool) (xs ys : List (List ℕ)) (n : ℕ) → ys ≡ [] → Going t xs n ys → split_at t xs ≡ (xs, ys)
unfolding split_at
going_ends t xs ys n is g =
    let all : take n xs ++ [] ≡ xs = ap (λ zs. take n xs ++ zs) (sym (g.behind ∙ is)) ∙ take-append-drop n xs in
    g.split ∙ rw is (ap (λ (front : List (List ℕ)). (front, [])) all)

-- where nothing ends the part
pub split_none : (xs : List (List ℕ)) → split_at (λ w. false) xs ≡ (xs, [])
unfolding split_at
split_none [] = refl
split_none (x ∷ xs) = rw (split_none xs) refl

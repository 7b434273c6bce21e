-- Lists that grow at their end, and are cut into runs.
use Rattle.std.proofs.Common.{◌≡◌, ℕ, zero, suc, ◌+◌, ◌<◌, ◌≤◌, List, [], ◌∷◌, ◌++◌, length, sum_by, drop, take, get_or, set, refl, sym, ap, ◌∙◌, ap₂, arith}
use Rattle.std.proofs.lemmas.List.{length-append, take-append-le, drop-append-le, take_all, take-take, drop-take, drop-drop, length-drop}
use Rattle.std.proofs.lemmas.List.Sums.{sum_by-cons}
use Rattle.net_lists.specs.Building.{change_last}
use Rattle.net_lists.specs.PartCuts.{cut}

-- a change of the last element, where that is shown
pub change_at_end : {X : Type 0} (f : X → X) (xs : List X) (x : X) → change_last f (xs ++ x ∷ []) ≡ xs ++ f x ∷ []
change_at_end f [] x = refl
change_at_end f (y ∷ []) x = refl
change_at_end f (y ∷ z ∷ zs) x = ap (λ ys. y ∷ ys) (change_at_end f (z ∷ zs) x)

-- a write at the last place
pub set_last : {X : Type 0} (f : X → X) (xs : List X) (i : ℕ) (x : X) → suc i ≡ length xs → x ≡ get_or xs i x → set xs i (f x) ≡ change_last f xs
set_last f [] i x l h = absurd (omega (arith, l))
set_last f (y ∷ []) zero x l h = ap (λ z. f z ∷ []) h
set_last f (y ∷ []) (suc i) x l h = absurd (omega (arith, l))
set_last f (y ∷ z ∷ zs) zero x l h = absurd (omega (arith, l))
set_last f (y ∷ z ∷ zs) (suc i) x l h = ap (λ ys. y ∷ ys) (set_last f (z ∷ zs) i x (omega (arith, l)) h)

pub change_length : {X : Type 0} (f : X → X) (xs : List X) → length (change_last f xs) ≡ length xs
change_length f [] = refl
change_length f (x ∷ []) = refl
change_length f (x ∷ y ∷ ys) = ap suc (change_length f (y ∷ ys))

change_dropped : {X : Type 0} (f : X → X) (n : ℕ) (xs : List X) → drop n (change_last f xs) ≡ change_last f (drop n xs)
change_dropped f zero xs = refl
change_dropped f (suc n) [] = refl
change_dropped f (suc zero) (x ∷ []) = refl
change_dropped f (suc (suc n)) (x ∷ []) = refl
change_dropped f (suc n) (x ∷ y ∷ ys) = change_dropped f n (y ∷ ys)

change_taken : {X : Type 0} (f : X → X) (n : ℕ) (xs : List X) → n < length xs → take n (change_last f xs) ≡ take n xs
change_taken f zero xs h = refl
change_taken f (suc n) [] h = refl
change_taken f (suc n) (x ∷ []) h = absurd (omega (arith, h))
change_taken f (suc n) (x ∷ y ∷ ys) h = ap (λ zs. x ∷ zs) (change_taken f n (y ∷ ys) (omega (arith, h)))

-- what is read of the last element, or else this
abbrev pub last_of : {X Y : Type 0} → Y → (X → Y) → List X → Y
last_of d f [] = d
last_of d f (x ∷ []) = f x
last_of d f (x ∷ y ∷ ys) = last_of d f (y ∷ ys)

pub last_read : {X Y : Type 0} (d : Y) (f : X → Y) (xs : List X) (i : ℕ) (x : X) → suc i ≡ length xs → x ≡ get_or xs i x → last_of d f xs ≡ f x
last_read d f [] i x l h = absurd (omega (arith, l))
last_read d f (y ∷ []) zero x l h = ap f (sym h)
last_read d f (y ∷ []) (suc i) x l h = absurd (omega (arith, l))
last_read d f (y ∷ z ∷ zs) zero x l h = absurd (omega (arith, l))
last_read d f (y ∷ z ∷ zs) (suc i) x l h = last_read d f (z ∷ zs) i x (omega (arith, l)) h

pub last_dropped : {X Y : Type 0} (d : Y) (f : X → Y) (n : ℕ) (xs : List X) → n < length xs → last_of d f (drop n xs) ≡ last_of d f xs
last_dropped d f zero xs h = refl
last_dropped d f (suc n) [] h = refl
last_dropped d f (suc n) (x ∷ []) h = absurd (omega (arith, h))
last_dropped d f (suc n) (x ∷ y ∷ ys) h = last_dropped d f n (y ∷ ys) (omega (arith, h))

module _ {H : Type 0} (count : H → ℕ) where
  pub last_fits : (hs : List H) → last_of 0 count hs ≤ sum_by count hs
  last_fits [] = omega arith
  last_fits (h ∷ []) = rw (sum_by-cons count h []) (omega arith)
  last_fits (h ∷ k ∷ hs) = let e = sum_by-cons count h (k ∷ hs) in let l = last_fits (k ∷ hs) in omega (arith, e, l)

  -- the last head counts one more
  pub more_counted : (more : H → H) → ((h : H) → count (more h) ≡ count h + 1) → (hs : List H) → 0 < length hs
      → sum_by count (change_last more hs) ≡ sum_by count hs + 1
  more_counted more is [] l = absurd (omega (arith, l))
  more_counted more is (h ∷ []) l = rw (sum_by-cons count (more h) [], sum_by-cons count h [], is h) (omega arith)
  more_counted more is (h ∷ k ∷ hs) l =
      let e = more_counted more is (k ∷ hs) (omega arith) in
      rw (sum_by-cons count h (change_last more (k ∷ hs)), sum_by-cons count h (k ∷ hs), e) (omega arith)

  -- the first head counts some of the elements, and the others those behind
  pub one_counted : {X : Type 0} (h : H) (xs : List X) → sum_by count (h ∷ []) ≡ length xs → count h ≡ length xs
  one_counted h xs l = let e = sum_by-cons count h [] in omega (arith, e, l)

  pub first_fits : {X : Type 0} (h : H) (hs : List H) (xs : List X) → sum_by count (h ∷ hs) ≡ length xs → count h ≤ length xs
  first_fits h hs xs l = let e = sum_by-cons count h hs in omega (arith, e, l)

  pub others_counted : {X : Type 0} (h : H) (hs : List H) (xs : List X) → sum_by count (h ∷ hs) ≡ length xs → sum_by count hs ≡ length (drop (count h) xs)
  others_counted h hs xs l = let e = sum_by-cons count h hs in let d = length-drop (count h) xs in omega (arith, e, l, d)

  pub first_is_short : {X : Type 0} (h : H) (hs : List H) (xs : List X) → sum_by count (h ∷ hs) ≡ length xs → 0 < last_of 0 count hs → count h < length xs
  first_is_short h hs xs l some = let e = sum_by-cons count h hs in let f = last_fits hs in omega (arith, e, l, f, some)

  module _ {X Y : Type 0} (make : H → List X → Y) where
    pub cut_length : (hs : List H) (xs : List X) → length (cut count make hs xs) ≡ length hs
    cut_length [] xs = refl
    cut_length (h ∷ hs) xs = ap suc (cut_length hs (drop (count h) xs))

    -- one element more, which the last head counts
    pub cut_more : (more : H → H) (f : Y → Y) (x : X) → ((h : H) → count (more h) ≡ count h + 1) → ((h : H) (xs : List X) → make (more h) (xs ++ x ∷ []) ≡ f (make h xs))
        → (hs : List H) (xs : List X) → sum_by count hs ≡ length xs → cut count make (change_last more hs) (xs ++ x ∷ []) ≡ change_last f (cut count make hs xs)
    cut_more more f x is made [] xs l = refl
    cut_more more f x is made (h ∷ []) xs l =
        let n : count h ≡ length xs = one_counted h xs l in
        let e : length (xs ++ x ∷ []) ≤ count (more h) = rw (is h, length-append xs (x ∷ []), n) (omega arith) in
        ap (λ ys. ys ∷ []) (ap (make (more h)) (take_all (count (more h)) (xs ++ x ∷ []) e) ∙ made h xs ∙ ap (λ ys. f (make h ys)) (sym (take_all (count h) xs (omega (arith, n)))))
    cut_more more f x is made (h ∷ k ∷ hs) xs l =
        let n : count h ≤ length xs = first_fits h (k ∷ hs) xs l in
        ap₂ (λ a b. a ∷ b) (ap (make h) (take-append-le (count h) xs (x ∷ []) n))
        (ap (cut count make (change_last more (k ∷ hs))) (drop-append-le (count h) xs (x ∷ []) n)
        ∙ cut_more more f x is made (k ∷ hs) (drop (count h) xs) (others_counted h (k ∷ hs) xs l))

    -- another last element, which the last head counts
    pub cut_changed : (g : X → X) (f : Y → Y) → ((h : H) (xs : List X) → make h (change_last g xs) ≡ f (make h xs))
        → (hs : List H) (xs : List X) → sum_by count hs ≡ length xs → 0 < last_of 0 count hs
        → cut count make hs (change_last g xs) ≡ change_last f (cut count make hs xs)
    cut_changed g f made [] xs l some = refl
    cut_changed g f made (h ∷ []) xs l some =
        let n : count h ≡ length xs = one_counted h xs l in
        let e : length (change_last g xs) ≤ count h = rw (change_length g xs) (omega (arith, n)) in
        ap (λ ys. ys ∷ []) (ap (make h) (take_all (count h) (change_last g xs) e) ∙ made h xs ∙ ap (λ ys. f (make h ys)) (sym (take_all (count h) xs (omega (arith, n)))))
    cut_changed g f made (h ∷ k ∷ hs) xs l some =
        ap₂ (λ a b. a ∷ b) (ap (make h) (change_taken g (count h) xs (first_is_short h (k ∷ hs) xs l some)))
        (ap (cut count make (k ∷ hs)) (change_dropped g (count h) xs)
        ∙ cut_changed g f made (k ∷ hs) (drop (count h) xs) (others_counted h (k ∷ hs) xs l) some)

    -- a head more, which counts nothing
    pub cut_bare : (h : H) → count h ≡ 0 → (hs : List H) (xs : List X) → sum_by count hs ≡ length xs → cut count make (hs ++ h ∷ []) xs ≡ cut count make hs xs ++ make h [] ∷ []
    cut_bare h none [] xs l = rw none refl
    cut_bare h none (k ∷ hs) xs l = ap (λ ys. make k (take (count k) xs) ∷ ys) (cut_bare h none hs (drop (count k) xs) (others_counted k hs xs l))

    -- the front of the heads has its elements, and the others the rest
    pub cut_taken : (n : ℕ) (hs : List H) (xs : List X) → take n (cut count make hs xs) ≡ cut count make (take n hs) (take (sum_by count (take n hs)) xs)
    cut_taken zero hs xs = refl
    cut_taken (suc n) [] xs = refl
    cut_taken (suc n) (h ∷ hs) xs =
        let k : ℕ = sum_by count (take n hs) in
        let e : sum_by count (h ∷ take n hs) ≡ count h + k = sum_by-cons count h (take n hs) in
        ap₂ (λ a b. a ∷ b) (ap (make h) (sym (take-take (count h) (count h + k) xs (omega arith))))
        (cut_taken n hs (drop (count h) xs) ∙ ap (cut count make (take n hs)) (sym (drop-take (count h) k xs)))
        ∙ ap (cut count make (h ∷ take n hs)) (ap (λ m. take m xs) (sym e))

    pub cut_dropped : (n : ℕ) (hs : List H) (xs : List X) → drop n (cut count make hs xs) ≡ cut count make (drop n hs) (drop (sum_by count (take n hs)) xs)
    cut_dropped zero hs xs = refl
    cut_dropped (suc n) [] xs = refl
    cut_dropped (suc n) (h ∷ hs) xs =
        let k : ℕ = sum_by count (take n hs) in
        let e : sum_by count (h ∷ take n hs) ≡ count h + k = sum_by-cons count h (take n hs) in
        cut_dropped n hs (drop (count h) xs) ∙ ap (cut count make (drop n hs)) (drop-drop k (count h) xs ∙ ap (λ m. drop m xs) (sym e))

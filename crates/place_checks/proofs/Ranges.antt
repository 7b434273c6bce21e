-- The elements of a list in order that are equal by the order to what is looked for.
use Rattle.std.proofs.Common.{◌≡◌, ℕ, zero, suc, ◌+◌, ◌≤◌, Bool, true, false, List, [], ◌∷◌, length, get_or-drop, take, drop, arith, length-drop, refl, ap, ◌∙◌}
use Rattle.std.specs.List.{AllWithin, filter}
use Rattle.std.specs.List.Sorted.{IsNonDecreasingBy, IsPartitionedBy, IsPartitionPoint}
use Rattle.std.specs.Ordering.{is_lt, is_le, is_eq, ordering_index}
use Rattle.std.specs.declared.cmp.Ordering.{Ordering}
use Rattle.std.specs.declared.cmp.Ordering.TheVariants.{Less, Equal, Greater}

lower_too : (a b : Ordering) → ordering_index a ≤ ordering_index b → is_lt b ≡ true → is_lt a ≡ true
lower_too Less b le h = refl
lower_too Equal Less le h = absurd (omega (arith, le))
lower_too Greater Less le h = absurd (omega (arith, le))
lower_too a Equal le h = cc
lower_too a Greater le h = cc

upto_too : (a b : Ordering) → ordering_index a ≤ ordering_index b → is_le b ≡ true → is_le a ≡ true
upto_too Less b le h = refl
upto_too Equal b le h = refl
upto_too Greater Less le h = absurd (omega (arith, le))
upto_too Greater Equal le h = absurd (omega (arith, le))
upto_too a Greater le h = cc

not_lower : (a : Ordering) → is_lt a ≡ true → is_eq a ≡ false
not_lower Less h = refl
not_lower Equal h = cc
not_lower Greater h = cc

not_above : (a : Ordering) → is_le a ≡ false → is_eq a ≡ false
not_above Less h = cc
not_above Equal h = cc
not_above Greater h = refl

is_here : (a : Ordering) → is_lt a ≡ false → is_le a ≡ true → is_eq a ≡ true
is_here Less h k = cc
is_here Equal h k = refl
is_here Greater h k = cc

module _ {X : Type 0} (o : X → Ordering) where
  -- what comes first in order
  pub parted_below : (xs : List X) → IsNonDecreasingBy (λ x. ordering_index (o x)) xs → IsPartitionedBy (λ x. is_lt (o x)) xs
  parted_below xs up = λ i j d le below h. lower_too _ _ (up i j d le below) h

  pub parted_upto : (xs : List X) → IsNonDecreasingBy (λ x. ordering_index (o x)) xs → IsPartitionedBy (λ x. is_le (o x)) xs
  parted_upto xs up = λ i j d le below h. upto_too _ _ (up i j d le below) h

  module _ (p : X → Bool) where
    -- a filter by what the first elements don't pass
    skip_front : (xs : List X) (i : ℕ) → i ≤ length xs → AllWithin (λ x. p x ≡ false) xs 0 i → filter p (drop i xs) ≡ filter p xs
    skip_front xs zero le h = refl
    skip_front [] (suc i) le h = absurd (omega (arith, le))
    skip_front (x ∷ xs) (suc i) le h =
        let first : p x ≡ false = h 0 x (omega arith) (omega arith) in
        skip_front xs i (omega (arith, le)) (λ k d low below. h (suc k) d (omega arith) (omega (arith, below))) ∙ rw first refl

    -- a filter by what the first elements pass, and no others
    keep_front : (xs : List X) (j : ℕ) → j ≤ length xs → AllWithin (λ x. p x ≡ true) xs 0 j → AllWithin (λ x. p x ≡ false) xs j (length xs) → take j xs ≡ filter p xs
    keep_front [] j le h k = grind (arith)
    keep_front (x ∷ xs) zero le h k =
        let first : p x ≡ false = k 0 x (omega arith) (omega arith) in
        rw first (keep_front xs zero (omega arith) (λ i d low below. absurd (omega (arith, below))) (λ i d low below. k (suc i) d (omega arith) (omega (arith, below))))
    keep_front (x ∷ xs) (suc j) le h k =
        let first : p x ≡ true = h 0 x (omega arith) (omega arith) in
        rw first (ap (λ ys. x ∷ ys) (keep_front xs j (omega (arith, le)) (λ i d low below. h (suc i) d (omega arith) (omega (arith, below))) (λ i d low below. k (suc i) d (omega (arith, low)) (omega (arith, below)))))

  -- two searches find those that are equal to what is looked for
  pub range_is : (xs : List X) (i j : ℕ) → i ≤ length xs → j ≤ length (drop i xs) → IsPartitionPoint (λ x. is_lt (o x) ≡ true) (λ x. is_lt (o x) ≡ false) xs i
      → IsPartitionPoint (λ x. is_le (o x) ≡ true) (λ x. is_le (o x) ≡ false) (drop i xs) j → take j (drop i xs) ≡ filter (λ x. is_eq (o x)) xs
  range_is xs i j le few low high =
      keep_front _ (drop i xs) j few
      (λ k d above below. is_here _ (ap (λ x. is_lt (o x)) (get_or-drop i xs k d) ∙ low.1 (i + k) d (omega arith) (omega (arith, length-drop i xs, below, few))) (high.0 k d above below))
      (λ k d above below. not_above _ (high.1 k d above below))
      ∙ skip_front _ xs i le (λ k d above below. not_lower _ (low.0 k d above below))

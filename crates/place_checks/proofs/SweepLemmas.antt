-- Lists in the order of a sweep, and what a test that follows that order parts them into.
use Rattle.std.proofs.Common.{◌≡◌, ℕ, zero, suc, ℤ, ◌≤ℤ◌, ◌<ℤ◌, Bool, true, false, not, List, [], ◌∷◌, filter, take, drop, length, get_or, get_or-drop, length-drop, ◌+◌, refl, sym, ap, ◌∙◌, arith}
use Rattle.std.specs.Prelude.{int_lt}
use Rattle.std.specs.Int.Signed.{le_z}
use Rattle.std.specs.Cmp.{IsTotalOrder, IsStrictWeakOrder}
use Rattle.std.specs.Ordering.{int_cmp, is_lt, ordering_then}
use Rattle.std.specs.declared.cmp.Ordering.{Ordering}
use Rattle.std.specs.declared.cmp.Ordering.TheVariants.{Less, Equal, Greater}
use Rattle.std.specs.List.{All, AllWithin}
use Rattle.std.specs.List.Sorted.{IsPartitionedBy, IsPartitionPoint}
use Rattle.std.proofs.lemmas.Int.{ints}
use Rattle.std.proofs.lemmas.Cmp.{int_cmp_total, on_total, then_total, int_ranked, by_ranked, tied_itself}
use Rattle.std.proofs.lemmas.List.Elements.{All-filter, filter_passes}
use Rattle.std.proofs.lemmas.List.Kept.{IsSortedBy-filter}
use Rattle.std.proofs.lemmas.List.Sorted.{ranks_by, sorted_far}
use Rattle.design_model.specs.declared.geometry.Rect.{Rect}
use Rattle.place_checks.specs.declared.swept_box.SweptBox.{SweptBox}
use Rattle.place_checks.specs.Sweep.{FromLeft, InSweepOrder, sweep_cmp}

pub sweep_cmp_total : IsTotalOrder sweep_cmp
sweep_cmp_total = then_total (on_total (λ (r : Rect). r.y1) int_cmp_total) (on_total (λ (r : Rect). r.x1) int_cmp_total)

pub is_order : IsStrictWeakOrder (λ (a b : SweptBox). is_lt (sweep_cmp a.rect b.rect))
is_order = ranks_by sweep_cmp_total (λ (b : SweptBox). b.rect)

-- a test that a box passes wherever one does that doesn't come before it
abbrev pub Follows : (SweptBox → Bool) → Type 0
Follows p = (a b : SweptBox) → is_lt (sweep_cmp b.rect a.rect) ≡ false → p b ≡ true → p a ≡ true

pub parted : (p : SweptBox → Bool) → Follows p → (xs : List SweptBox) → InSweepOrder xs → IsPartitionedBy p xs
parted p follows xs s i j d low high pass = follows (get_or xs i d) (get_or xs j d) (sorted_far _ is_order xs s.rises i j d low high) pass

pub sorted_filter : (p : SweptBox → Bool) (xs : List SweptBox) → InSweepOrder xs → InSweepOrder (filter p xs)
sorted_filter p xs s = record { rises = IsSortedBy-filter _ is_order p xs s.rises }

-- all of a list pass, or none does
all_pass : (p : SweptBox → Bool) (xs : List SweptBox) → AllWithin (λ y. p y ≡ true) xs 0 (length xs) → filter p xs ≡ xs
all_pass p [] h = refl
all_pass p (x ∷ xs) h =
    let rest = all_pass p xs (λ k d low high. h (suc k) d (omega arith) (omega arith)) in
    let here : p x ≡ true = h 0 x (omega arith) (omega arith) in
    rw (here, rest) refl

none_pass : (p : SweptBox → Bool) (xs : List SweptBox) → AllWithin (λ y. p y ≡ false) xs 0 (length xs) → filter p xs ≡ []
none_pass p [] h = refl
none_pass p (x ∷ xs) h =
    let rest = none_pass p xs (λ k d low high. h (suc k) d (omega arith) (omega arith)) in
    let here : p x ≡ false = h 0 x (omega arith) (omega arith) in
    rw (here, rest) refl

-- those before the point are those that pass
pub passing : (p : SweptBox → Bool) (xs : List SweptBox) (n : ℕ) → IsPartitionPoint (λ y. p y ≡ true) (λ y. p y ≡ false) xs n → take n xs ≡ filter p xs
passing p [] zero h = refl
passing p [] (suc n) h = refl
passing p (x ∷ xs) zero h = sym (none_pass p (x ∷ xs) h.1)
passing p (x ∷ xs) (suc n) h =
    let here : p x ≡ true = h.0 0 x (omega arith) (omega arith) in
    let rest = passing p xs n (λ k d low high. h.0 (suc k) d (omega arith) (omega arith), λ k d low high. h.1 (suc k) d (omega arith) (omega arith)) in
    rw here (ap (λ (ys : List SweptBox). x ∷ ys) rest)

-- and those from it on are the others
pub others : (p q : SweptBox → Bool) → ((x : SweptBox) → q x ≡ not (p x)) → (xs : List SweptBox) (n : ℕ) → IsPartitionPoint (λ y. p y ≡ true) (λ y. p y ≡ false) xs n
    → drop n xs ≡ filter q xs
others p q not_p [] zero h = refl
others p q not_p [] (suc n) h = refl
others p q not_p (x ∷ xs) zero h = sym (all_pass q (x ∷ xs) (λ k d low high. not_p (get_or (x ∷ xs) k d) ∙ ap not (h.1 k d low high)))
others p q not_p (x ∷ xs) (suc n) h =
    let here : q x ≡ false = not_p x ∙ ap not (h.0 0 x (omega arith) (omega arith)) in
    let rest = others p q not_p xs n (λ k d low high. h.0 (suc k) d (omega arith) (omega arith), λ k d low high. h.1 (suc k) d (omega arith) (omega arith)) in
    rw here rest

less_first : (o p : Ordering) → o ≡ Less → is_lt (ordering_then o p) ≡ false → ⊥
less_first Less p is e = cc
less_first Equal p is e = cc
less_first Greater p is e = cc

less_second : (o p : Ordering) → o ≡ Equal → p ≡ Less → is_lt (ordering_then o p) ≡ false → ⊥
less_second Less p is less e = cc
less_second Equal Less is less e = cc
less_second Equal Equal is less e = cc
less_second Equal Greater is less e = cc
less_second Greater p is less e = cc

-- a rectangle that another doesn't come before isn't above it
pub not_above : (a b : Rect) → is_lt (sweep_cmp b a) ≡ false → a.y1 ≤ℤ b.y1
not_above a b e = by_ranked _ _ _ (int_cmp b.y1 a.y1) (int_ranked b.y1 a.y1 (int_cmp b.y1 a.y1) refl)
    (λ is h. absurd (less_first _ _ is e))
    (λ is (h : b.y1 ≡ a.y1). omega (arith, ints))
    (λ is (h : a.y1 <ℤ b.y1). omega (arith, ints))

-- nor, where it isn't below it, right of it
pub not_right : (a b : Rect) → is_lt (sweep_cmp b a) ≡ false → b.y1 ≤ℤ a.y1 → a.x1 ≤ℤ b.x1
not_right a b e level =
    let up = not_above a b e in
    by_ranked _ _ _ (int_cmp b.x1 a.x1) (int_ranked b.x1 a.x1 (int_cmp b.x1 a.x1) refl)
    (λ is h. absurd (less_second _ _ (equal_cmp b.y1 a.y1 (omega (arith, ints))) is e))
    (λ is (h : b.x1 ≡ a.x1). omega (arith, ints))
    (λ is (h : a.x1 <ℤ b.x1). omega (arith, ints)) where
      equal_cmp : (x y : ℤ) → x ≡ y → int_cmp x y ≡ Equal
      equal_cmp x y same = rw same (tied_itself int_cmp_total y)

-- tests and what they say
pub below_of : (p q : ℤ) → int_lt p q ≡ true → p <ℤ q
below_of p q h = grind (arith, ints)

pub below_test : (p q : ℤ) → p <ℤ q → int_lt p q ≡ true
below_test p q h = grind (arith, ints)

pub not_below_of : (p q : ℤ) → int_lt p q ≡ false → q ≤ℤ p
not_below_of p q h = grind (arith, ints)

pub not_below_test : (p q : ℤ) → q ≤ℤ p → int_lt p q ≡ false
not_below_test p q h = grind (arith, ints)

pub up_to_of : (p q : ℤ) → le_z p q ≡ true → p ≤ℤ q
up_to_of p q h = grind (arith, ints)

pub up_to_test : (p q : ℤ) → p ≤ℤ q → le_z p q ≡ true
up_to_test p q h = grind (arith, ints)

pub above_is_not_up_to : (p q : ℤ) → int_lt q p ≡ not (le_z p q)
above_is_not_up_to p q = grind (arith, ints)

pub follows_below : (h : ℤ) → Follows (λ b. int_lt b.rect.y1 h)
follows_below h a b e pass =
    let up = not_above a.rect b.rect e in
    let below = below_of b.rect.y1 h pass in
    below_test a.rect.y1 h (omega (arith, ints))

pub follows_up_to : (h : ℤ) → Follows (λ b. le_z b.rect.y1 h)
follows_up_to h a b e pass =
    let up = not_above a.rect b.rect e in
    let below = up_to_of b.rect.y1 h pass in
    up_to_test a.rect.y1 h (omega (arith, ints))

pub taken : (h : ℤ) (xs : List SweptBox) (n : ℕ) → IsPartitionPoint (λ (b : SweptBox). int_lt b.rect.y1 h ≡ true) (λ b. int_lt b.rect.y1 h ≡ false) xs n
    → take n xs ≡ filter (λ b. int_lt b.rect.y1 h) xs
taken h xs n p = passing (λ b. int_lt b.rect.y1 h) xs n p

pub left_over : (h : ℤ) (xs : List SweptBox) (n : ℕ) → IsPartitionPoint (λ (b : SweptBox). le_z b.rect.y1 h ≡ true) (λ b. le_z b.rect.y1 h ≡ false) xs n
    → drop n xs ≡ filter (λ b. int_lt h b.rect.y1) xs
left_over h xs n p = others (λ b. le_z b.rect.y1 h) (λ b. int_lt h b.rect.y1) (λ b. above_is_not_up_to b.rect.y1 h) xs n p

pub sorted_as : (p : SweptBox → Bool) (xs ys : List SweptBox) → InSweepOrder xs → ys ≡ filter p xs → InSweepOrder ys
sorted_as p xs ys s is = rw is (sorted_filter p xs s)

-- boxes with the lower edge of the first one of some go from left to right
pub row_from_left : (first : SweptBox) (behind left row : List SweptBox) → InSweepOrder left → left ≡ first ∷ behind → row ≡ filter (λ b. le_z b.rect.y1 first.rect.y1) left → FromLeft row
row_from_left first behind left row s split is =
    let p : SweptBox → Bool = λ b. le_z b.rect.y1 first.rect.y1 in
    let high : All (λ (b : SweptBox). first.rect.y1 ≤ℤ b.rect.y1) left = rw split (λ k d low. not_above first.rect (get_or (first ∷ behind) k d).rect (sorted_far _ is_order (first ∷ behind) (rw split at s).rises 0 k d (omega arith) low)) in
    rw is (record {
      rises = λ i j d before within.
          let up : first.rect.y1 ≤ℤ (get_or (filter p left) i d).rect.y1 = All-filter p (λ (b : SweptBox). first.rect.y1 ≤ℤ b.rect.y1) left high i d (omega (arith, before, within)) in
          let down : (get_or (filter p left) j d).rect.y1 ≤ℤ first.rect.y1 = up_to_of (get_or (filter p left) j d).rect.y1 first.rect.y1 (filter_passes p left j d within) in
          not_right (get_or (filter p left) i d).rect (get_or (filter p left) j d).rect (sorted_far _ is_order (filter p left) (sorted_filter p left s).rises i j d (omega (arith, before)) within) (omega (arith, ints));
    })

-- and so do those from one on
pub drop_from_left : (i : ℕ) (row : List SweptBox) → FromLeft row → FromLeft (drop i row)
drop_from_left i row s = record {
  rises = λ j k d before within. rw (get_or-drop i row j d, get_or-drop i row k d) (s.rises (i + j) (i + k) d (omega (arith, before)) (omega (arith, within, length-drop i row)));
}

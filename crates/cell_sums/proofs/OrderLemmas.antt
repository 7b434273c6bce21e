-- Lines in order: what is sorted and has each line once is the one list that rises and has the same lines.
use Rattle.std.proofs.Common.{◌≡◌, ◌+◌, Bool, true, false, cond, if◌then◌else◌, ◌||◌, nat_lt, List, [], ◌∷◌, ℤ, int_lt, refl, sym, ap, ap₂, ◌∙◌, arith}
use Rattle.std.proofs.lemmas.Bool.Decides.{Decides-int_eq, nat_tests}
use Rattle.std.proofs.lemmas.Cmp.{int_cmp_total}
use Rattle.std.proofs.lemmas.List.Filters.{All-dedup}
use Rattle.std.proofs.lemmas.List.Kept.{IsStrictlySortedBy-dedup}
use Rattle.std.proofs.lemmas.List.Sorted.{All-permutation, sum_by-IsPermutation}
use Rattle.std.proofs.lemmas.List.Sums.{sum_by-cons}
use Rattle.std.specs.List.{All, AllByRecursion, sum_by, dedup, dedup_from}
use Rattle.std.specs.List.Sorted.{IsPermutation, IsSorted, IsStrictlySortedBy}
use Rattle.std.specs.Ordering.{int_cmp, int_eq, is_eq, ordering_reverse}
use Rattle.std.specs.declared.cmp.Ordering.TheVariants.{Less, Equal, Greater}
use Rattle.measure_rules.specs.GridCells.{in_order, with_line}
use Rattle.design_model.specs.Ranges.{IsWithin}
use Rattle.cell_sums.specs.Lines.{AreLines, farthest}

-- whether a line is among others
abbrev has : ℤ → List ℤ → Bool
has z [] = false
has z (x ∷ xs) = int_eq z x || has z xs

abbrev IsBefore : ℤ → List ℤ → Type 0
IsBefore x xs = AllByRecursion (λ y. int_cmp x y ≡ Less) xs

less : (a b : ℤ) → int_lt a b ≡ true → int_cmp a b ≡ Less
less a b e = ap (λ p. cond p Less (cond (int_lt b a) Greater Equal)) e

same_place : (a b : ℤ) → int_lt a b ≡ false → int_lt b a ≡ false → a ≡ b
same_place a b e f = (Decides-int_eq a b).0 (ap₂ (λ p q. is_eq (cond p Less (cond q Greater Equal))) e f)

itself : (a : ℤ) → int_eq a a ≡ true
itself a = (Decides-int_eq a a).1 refl

or_swap : (a b c : Bool) → (a || (b || c)) ≡ (b || (a || c))
or_swap true true c = refl
or_swap true false c = refl
or_swap false true c = refl
or_swap false false c = refl

or_twice : (a c : Bool) → (a || c) ≡ (a || (a || c))
or_twice true c = refl
or_twice false c = refl

has_with : (z x : ℤ) (ls : List ℤ) → has z (with_line x ls) ≡ (int_eq z x || has z ls)
unfolding with_line
has_with z x [] = refl
has_with z x (l ∷ ls) = by (int_lt x l) refl (int_lt l x) refl (has_with z x ls)
  where
    by : (p : Bool) → int_lt x l ≡ p → (q : Bool) → int_lt l x ≡ q → has z (with_line x ls) ≡ (int_eq z x || has z ls)
        → has z (if p then x ∷ l ∷ ls else (if q then l ∷ with_line x ls else l ∷ ls)) ≡ (int_eq z x || (int_eq z l || has z ls))
    by true e q f later = refl
    by false e true f later = ap (λ b. int_eq z l || b) later ∙ or_swap (int_eq z l) (int_eq z x) (has z ls)
    by false e false f later = or_twice (int_eq z l) (has z ls) ∙ ap (λ k. int_eq z k || (int_eq z l || has z ls)) (sym (same_place x l e f))

has_in_order : (z : ℤ) (xs : List ℤ) → has z (in_order xs) ≡ has z xs
unfolding in_order
has_in_order z [] = refl
has_in_order z (x ∷ xs) = has_with z x (in_order xs) ∙ ap (λ b. int_eq z x || b) (has_in_order z xs)

before_later : (a b : ℤ) (xs : List ℤ) → int_cmp a b ≡ Less → IsBefore b xs → IsBefore a xs
before_later a b [] e all = tt
before_later a b (x ∷ xs) e all = (int_cmp_total.trans a b x e all.0, before_later a b xs e all.1)

before_with : (a x : ℤ) (ls : List ℤ) → int_cmp a x ≡ Less → IsBefore a ls → IsBefore a (with_line x ls)
unfolding with_line
before_with a x [] e all = (e, tt)
before_with a x (l ∷ ls) e all = by (int_lt x l) (int_lt l x) (before_with a x ls e all.1)
  where
    by : (p q : Bool) → IsBefore a (with_line x ls) → IsBefore a (if p then x ∷ l ∷ ls else (if q then l ∷ with_line x ls else l ∷ ls))
    by true q later = (e, all)
    by false true later = (all.0, later)
    by false false later = all

rises_with : (x : ℤ) (ls : List ℤ) → IsStrictlySortedBy int_cmp ls → IsStrictlySortedBy int_cmp (with_line x ls)
unfolding with_line IsStrictlySortedBy
rises_with x [] up = (tt, tt)
rises_with x (l ∷ ls) up = by (int_lt x l) refl (int_lt l x) refl (rises_with x ls up.1)
  where
    by : (p : Bool) → int_lt x l ≡ p → (q : Bool) → int_lt l x ≡ q → IsStrictlySortedBy int_cmp (with_line x ls)
        → IsStrictlySortedBy int_cmp (if p then x ∷ l ∷ ls else (if q then l ∷ with_line x ls else l ∷ ls))
    by true e q f later = ((less x l e, before_later x l ls (less x l e) up.0), up)
    by false e true f later = (before_with l x ls (less l x f) up.0, later)
    by false e false f later = up

rises_in_order : (xs : List ℤ) → IsStrictlySortedBy int_cmp (in_order xs)
unfolding in_order IsStrictlySortedBy
rises_in_order [] = tt
rises_in_order (x ∷ xs) = rises_with x (in_order xs) (rises_in_order xs)

none_before : (z : ℤ) (ys : List ℤ) → IsBefore z ys → has z ys ≡ false
none_before z [] all = refl
none_before z (y ∷ ys) all = ap₂ (λ a b. a || b) (ap is_eq all.0) (none_before z ys all.1)

-- what is left behind the first line of each of two lists
tail_has : (z x y : ℤ) (a b : Bool) → x ≡ y → (int_eq z x ≡ true → (a ≡ false) × (b ≡ false)) → (int_eq z x || a) ≡ (int_eq z y || b) → a ≡ b
tail_has z x y a b same none h = by (int_eq z x) refl
  where
    by : (p : Bool) → int_eq z x ≡ p → a ≡ b
    by true e = (none e).0 ∙ sym (none e).1
    by false e = ap (λ q. q || a) (sym e) ∙ h ∙ ap (λ q. q || b) (ap (λ k. int_eq z k) (sym same) ∙ e)

same_lines : (xs ys : List ℤ) → IsStrictlySortedBy int_cmp xs → IsStrictlySortedBy int_cmp ys → ((z : ℤ) → has z xs ≡ has z ys) → xs ≡ ys
unfolding IsStrictlySortedBy
same_lines [] [] u v h = refl
same_lines [] (y ∷ ys) u v h = let e = h y in let i : has y (y ∷ ys) ≡ true = ap (λ p. p || has y ys) (itself y) in cc
same_lines (x ∷ xs) [] u v h = let e = h x in let i : has x (x ∷ xs) ≡ true = ap (λ p. p || has x xs) (itself x) in cc
same_lines (x ∷ xs) (y ∷ ys) u v h =
    elim (int_cmp x y) as (λ r. int_cmp x y ≡ r → x ∷ xs ≡ y ∷ ys) [
      | Less ↦ λ e.
          let there : has x (x ∷ xs) ≡ true = ap (λ p. p || has x xs) (itself x) in
          let missing : has x (y ∷ ys) ≡ false = none_before x (y ∷ ys) (e, before_later x y ys e v.0) in
          let c = h x in cc
      | Equal ↦ λ e.
          let same : x ≡ y = (Decides-int_eq x y).0 (ap is_eq e) in
          ap₂ (λ k ks. k ∷ ks) same
          (same_lines xs ys u.1 v.1
          (λ z.
          tail_has z x y (has z xs) (has z ys) same
          (λ t.
          let at : z ≡ x = (Decides-int_eq z x).0 t in
          (ap (λ k. has k xs) at ∙ none_before x xs u.0, ap (λ k. has k ys) (at ∙ same) ∙ none_before y ys v.0))
          (h z)))
      | Greater ↦ λ e.
          let back : int_cmp y x ≡ Less = int_cmp_total.antisymm y x ∙ ap ordering_reverse e in
          let there : has y (y ∷ ys) ≡ true = ap (λ p. p || has y ys) (itself y) in
          let missing : has y (x ∷ xs) ≡ false = none_before y (x ∷ xs) (back, before_later y x xs back u.0) in
          let c = h y in cc
    ] refl

-- how often a line stands among others tells whether it is among them
has_often : (z : ℤ) (xs : List ℤ) → has z xs ≡ nat_lt 0 (sum_by (λ x. cond (int_eq z x) 1 0) xs)
has_often z [] = refl
has_often z (x ∷ xs) = by (int_eq z x) (has_often z xs) ∙ ap (λ n. nat_lt 0 n) (sym (sum_by-cons (λ y. cond (int_eq z y) 1 0) x xs))
  where
    by : (p : Bool) → has z xs ≡ nat_lt 0 (sum_by (λ y. cond (int_eq z y) 1 0) xs) → (p || has z xs) ≡ nat_lt 0 (cond p 1 0 + sum_by (λ y. cond (int_eq z y) 1 0) xs)
    by true later = grind (arith, nat_tests)
    by false later = later ∙ ap (λ n. nat_lt 0 n) (omega arith)

has_permuted : (z : ℤ) (xs ys : List ℤ) → IsPermutation xs ys → has z ys ≡ has z xs
has_permuted z xs ys same = has_often z ys ∙ ap (λ n. nat_lt 0 n) (sum_by-IsPermutation (λ x. cond (int_eq z x) 1 0) xs ys same) ∙ sym (has_often z xs)

has_dedup_from : (z k : ℤ) (xs : List ℤ) → has z (dedup_from int_eq k xs) ≡ (int_eq z k || has z xs)
has_dedup_from z k [] = refl
has_dedup_from z k (x ∷ xs) = by (int_eq x k) refl (has_dedup_from z k xs) (has_dedup_from z x xs)
  where
    by : (p : Bool) → int_eq x k ≡ p → has z (dedup_from int_eq k xs) ≡ (int_eq z k || has z xs) → has z (dedup_from int_eq x xs) ≡ (int_eq z x || has z xs)
        → has z (cond p (dedup_from int_eq k xs) (k ∷ dedup_from int_eq x xs)) ≡ (int_eq z k || (int_eq z x || has z xs))
    by true e first next = first ∙ or_twice (int_eq z k) (has z xs) ∙ ap (λ l. int_eq z k || (int_eq z l || has z xs)) (sym ((Decides-int_eq x k).0 e))
    by false e first next = ap (λ b. int_eq z k || b) next

has_dedup : (z : ℤ) (xs : List ℤ) → has z (dedup int_eq xs) ≡ has z xs
has_dedup z [] = refl
has_dedup z (x ∷ xs) = has_dedup_from z x xs

module _ (lines sorted : List ℤ) (same : IsPermutation lines sorted) (up : IsSorted int_cmp sorted) where
  rises : IsStrictlySortedBy int_cmp (dedup int_eq sorted)
  rises = IsStrictlySortedBy-dedup int_cmp_total (λ x y. refl) sorted up

  pub in_order_is : dedup int_eq sorted ≡ in_order lines
  in_order_is = same_lines (dedup int_eq sorted) (in_order lines) rises (rises_in_order lines) (λ z. has_dedup z sorted ∙ has_permuted z lines sorted same ∙ sym (has_in_order z lines))

  pub are_lines : All (IsWithin farthest) lines → AreLines (dedup int_eq sorted)
  are_lines near = record { rise = rises; near = All-dedup int_eq (IsWithin farthest) sorted (All-permutation (IsWithin farthest) lines sorted same near) }

-- Lists that have each line as often are permutations of one another.
use Rattle.std.proofs.Common.{◌≡◌, ◌+◌, ◌<◌, ℕ, Bool, true, false, cond, List, [], ◌∷◌, ◌++◌, refl, sym, ap, subst, ◌∙◌, arith, ⊎_elim}
use Rattle.std.specs.Str.{bytes_eq}
use Rattle.std.specs.List.Sorted.{IsPermutation}
use Rattle.std.proofs.lemmas.Bool.{cases_Bool as cases}
use Rattle.std.proofs.lemmas.Slice.Eq.{bytes_eq-Decides}
use Rattle.std.proofs.lemmas.List.Sums.{sum_by-cons, sum_by-append}
use Rattle.std.proofs.lemmas.List.Sorted.{IsPermutation-refl, IsPermutation-sym, IsPermutation-trans, IsPermutation-cons, IsPermutation-middle}
use Rattle.line_laws.specs.Lines.{times, SameLines}
use Rattle.line_laws.specs.SortingLaws.{SameLinesSortAlike}
use Rattle.line_laws.proofs.SortedLines.{sorting_is_by_lines}

times-cons : (q x : List ℕ) (xs : List (List ℕ)) → times q (x ∷ xs) ≡ cond (bytes_eq q x) 1 0 + times q xs
times-cons q x xs = sum_by-cons (λ y. cond (bytes_eq q y) 1 0) x xs

times-append : (q : List ℕ) (xs ys : List (List ℕ)) → times q (xs ++ ys) ≡ times q xs + times q ys
times-append q xs ys = sum_by-append (λ x. cond (bytes_eq q x) 1 0) xs ys

times_itself : (x : List ℕ) (xs : List (List ℕ)) → times x (x ∷ xs) ≡ 1 + times x xs
times_itself x xs = times-cons x x xs ∙ ap (λ (b : Bool). cond {A = ℕ} b 1 0 + times x xs) ((bytes_eq-Decides x x).1 refl)

-- where a line stands in a list
record StandsIn (x : List ℕ) (ys : List (List ℕ)) : Type 0 where
  before : List (List ℕ)
  after : List (List ℕ)
  is : ys ≡ before ++ x ∷ after

stands_later : (x y : List ℕ) (ys : List (List ℕ)) → StandsIn x ys → StandsIn x (y ∷ ys)
stands_later x y ys s = record { before = y ∷ s.before; after = s.after; is = ap (λ (l : List (List ℕ)). y ∷ l) s.is }

stands_in : (x : List ℕ) (ys : List (List ℕ)) → 0 < times x ys → StandsIn x ys
stands_in x [] some = absurd (omega arith)
stands_in x (y ∷ ys) some = ⊎_elim
    (λ (same : bytes_eq x y ≡ true). record { before = []; after = ys; is = ap (λ (l : List ℕ). l ∷ ys) (sym ((bytes_eq-Decides x y).0 same)) })
    (λ (other : bytes_eq x y ≡ false).
    let none : cond (bytes_eq x y) 1 0 ≡ 0 = ap (λ (b : Bool). cond {A = ℕ} b 1 0) other in
    stands_later x y ys (stands_in x ys (omega (arith, some, none, times-cons x y ys))))
    (cases (bytes_eq x y))

-- without a line that both have they still have the same
others_same : (x : List ℕ) (xs before after : List (List ℕ)) → SameLines (x ∷ xs) (before ++ x ∷ after) → SameLines xs (before ++ after)
others_same x xs before after h = record {
  often = λ q.
      let a = h.often q in
      omega (arith, a, times-cons q x xs, times-cons q x after, times-append q before (x ∷ after), times-append q before after);
}

same_permutes : (xs ys : List (List ℕ)) → SameLines xs ys → IsPermutation xs ys
same_permutes [] [] h = IsPermutation-refl []
same_permutes [] (y ∷ ys) h = let a = h.often y in absurd (omega (arith, a, times_itself y ys))
same_permutes (x ∷ xs) ys h =
    let a = h.often x in
    let s = stands_in x ys (omega (arith, a, times_itself x xs)) in
    let same : SameLines (x ∷ xs) (s.before ++ x ∷ s.after) = subst (λ (l : List (List ℕ)). SameLines (x ∷ xs) l) s.is h in
    let rest = IsPermutation-cons x xs (s.before ++ s.after) (same_permutes xs (s.before ++ s.after) (others_same x xs s.before s.after same)) in
    rw s.is (IsPermutation-trans _ _ _ rest (IsPermutation-sym _ _ (IsPermutation-middle s.before x s.after)))

pub same_lines_sort_alike : SameLinesSortAlike
same_lines_sort_alike xs ys h = sorting_is_by_lines.1 xs ys (same_permutes xs ys h)

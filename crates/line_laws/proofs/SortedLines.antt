-- The sorted list of some lines: it has the same lines, in order, and is the same for any order of them.
use Rattle.std.proofs.Common.{◌≡◌, ◌<◌, ℕ, zero, suc, true, false, cond, List, [], ◌∷◌, length, get_or, refl, sym, ap, ◌∙◌, arith, add-one}
use Rattle.std.specs.Ordering.{is_lt, ordering_reverse}
use Rattle.std.specs.List.Sorted.{IsPermutation}
use Rattle.std.specs.declared.cmp.Ordering.{Ordering}
use Rattle.std.specs.declared.cmp.Ordering.TheVariants.{Less, Equal, Greater}
use Rattle.std.proofs.lemmas.Cmp.{nat_list_cmp_total}
use Rattle.std.proofs.lemmas.List.Sorted.{IsPermutation-refl, IsPermutation-sym, IsPermutation-trans, IsPermutation-cons, IsPermutation-middle}
use Rattle.design_model.specs.Order.{byte_cmp, put_in_order, sorted_by_bytes, IsSortOf}
use Rattle.design_model.proofs.SortUnique.{sorted_is}
use Rattle.line_laws.specs.SortingLaws.{SortingIsByLines}

abbrev Text : Type 0
Text = List ℕ

put_permutes : (x : Text) (ys : List Text) → IsPermutation (x ∷ ys) (put_in_order x ys)
put_permutes x [] = IsPermutation-refl (x ∷ [])
put_permutes x (y ∷ ys) =
    elim (is_lt (byte_cmp y x)) as (λ b. IsPermutation (x ∷ y ∷ ys) (cond b (y ∷ put_in_order x ys) (x ∷ y ∷ ys))) [
      | true ↦ IsPermutation-trans _ _ _ (IsPermutation-sym _ _ (IsPermutation-middle (y ∷ []) x ys)) (IsPermutation-cons y _ _ (put_permutes x ys))
      | false ↦ IsPermutation-refl (x ∷ y ∷ ys)
    ]

sorted_permutes : (xs : List Text) → IsPermutation xs (sorted_by_bytes xs)
sorted_permutes [] = IsPermutation-refl []
sorted_permutes (x ∷ xs) = IsPermutation-trans _ _ _ (IsPermutation-cons x _ _ (sorted_permutes xs)) (put_permutes x (sorted_by_bytes xs))

-- the first of some texts isn't below x
abbrev Follows : Text → List Text → Type 0
Follows x [] = Unit {0}
Follows x (y ∷ ys) = is_lt (byte_cmp y x) ≡ false

abbrev Up : List Text → Type 0
Up [] = Unit {0}
Up (x ∷ xs) = Follows x xs × Up xs

follows_put : (z x : Text) (ys : List Text) → is_lt (byte_cmp x z) ≡ false → Follows z ys → Follows z (put_in_order x ys)
follows_put z x [] above follows = above
follows_put z x (y ∷ ys) above follows = elim (is_lt (byte_cmp y x)) as (λ b. Follows z (cond b (y ∷ put_in_order x ys) (x ∷ y ∷ ys))) [ true ↦ follows | false ↦ above ]

not_both : (r : Ordering) → is_lt r ≡ true → is_lt (ordering_reverse r) ≡ false
not_both Less e = refl
not_both Equal e = refl
not_both Greater e = cc

up_put : (x : Text) (ys : List Text) → Up ys → Up (put_in_order x ys)
up_put x [] up = (tt, tt)
up_put x (y ∷ ys) up =
    elim (is_lt (byte_cmp y x)) as (λ b. is_lt (byte_cmp y x) ≡ b → Up (cond b (y ∷ put_in_order x ys) (x ∷ y ∷ ys))) [
      | true ↦ λ e. (follows_put y x ys (ap is_lt (nat_list_cmp_total.antisymm x y) ∙ not_both (byte_cmp y x) e) up.0, up_put x ys up.1)
      | false ↦ λ e. (e, up)
    ] refl

up_sorted : (xs : List Text) → Up (sorted_by_bytes xs)
up_sorted [] = tt
up_sorted (x ∷ xs) = up_put x (sorted_by_bytes xs) (up_sorted xs)

in_order : (xs : List Text) → Up xs → (k : ℕ) (d : Text) → suc k < length xs → is_lt (byte_cmp (get_or xs (suc k) d) (get_or xs k d)) ≡ false
in_order [] up k d below = absurd (omega arith)
in_order (x ∷ []) up k d below = absurd (omega arith)
in_order (x ∷ y ∷ ys) up zero d below = up.0
in_order (x ∷ y ∷ ys) up (suc k) d below = in_order (y ∷ ys) up.1 k d (omega arith)

sorts : (xs : List Text) → IsSortOf xs (sorted_by_bytes xs)
sorts xs = record {
  same = sorted_permutes xs;
  sorted = λ k d low high. rw (add-one k) (in_order (sorted_by_bytes xs) (up_sorted xs) k d (omega arith));
}

-- lists with the same lines give the same
same_sorted : (xs ys : List Text) → IsPermutation xs ys → sorted_by_bytes xs ≡ sorted_by_bytes ys
same_sorted xs ys same = sym (sorted_is xs (sorted_by_bytes ys) (record {
  same = IsPermutation-trans _ _ _ same (sorts ys).same;
  sorted = (sorts ys).sorted;
}))

pub sorting_is_by_lines : SortingIsByLines
sorting_is_by_lines = (sorts, same_sorted)

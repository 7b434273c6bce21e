-- Texts in order, and where a text stands among them.
use Rattle.std.proofs.Common.{◌≡◌, ◌≤◌, ◌<◌, ◌+◌, ℕ, zero, suc, true, false, cond, List, [], ◌∷◌, refl, sym, ap, ◌∙◌, subst, arith, length, get_or}
use Rattle.std.specs.List.{insert, remove, prefix_len}
use Rattle.std.specs.Ordering.{is_lt, ordering_reverse}
use Rattle.std.specs.Str.{bytes_eq}
use Rattle.std.specs.declared.cmp.Ordering.{Ordering}
use Rattle.std.specs.declared.cmp.Ordering.TheVariants.{Less, Equal, Greater}
use Rattle.std.proofs.lemmas.Cmp.{nat_list_cmp_total}
use Rattle.std.proofs.lemmas.List.Sums.{sum_by-cons, sum_by-remove}
use Rattle.std.proofs.lemmas.Map.Lookups.{exact_bytes}
use Rattle.std.proofs.lemmas.Slice.Eq.{bytes_eq-Decides}
use Rattle.design_model.specs.Order.{byte_cmp, put_in_order, sorted_by_bytes}
use Rattle.kept_lines.proofs.Counts.{Above, Up, count, count-above, count-cons, count-sorted, hit, itself, not_less, same_lists, up_put, up_sorted}
use Rattle.line_laws.specs.Lines.{SameLines, times}
use Rattle.kept_lines.specs.Kept.{is_below}

abbrev Text : Type 0
Text = List ℕ

abbrev pub IsInOrder : List Text → Type 0
IsInOrder xs = sorted_by_bytes xs ≡ xs

pub up_of : (xs : List Text) → IsInOrder xs → Up xs
up_of xs e = subst Up e (up_sorted xs)

in_order_of : (xs : List Text) → Up xs → IsInOrder xs
in_order_of xs u = same_lists (sorted_by_bytes xs) xs (up_sorted xs) u (λ q. count-sorted q xs)

pub sorted_is_in_order : (xs : List Text) → IsInOrder (sorted_by_bytes xs)
sorted_is_in_order xs = in_order_of (sorted_by_bytes xs) (up_sorted xs)

insert-cons : {X : Type 0} (y x : X) (ys : List X) (n : ℕ) → insert (y ∷ ys) (1 + n) x ≡ y ∷ insert ys n x
insert-cons y x ys n = let e : 1 + n ≡ suc n = omega arith in rw e refl

pub put_is_insert : (x : Text) (ys : List Text) → put_in_order x ys ≡ insert ys (prefix_len (is_below x) ys) x
put_is_insert x [] = refl
put_is_insert x (y ∷ ys) =
    elim (is_lt (byte_cmp y x)) as (λ b. cond b (y ∷ put_in_order x ys) (x ∷ y ∷ ys) ≡ insert (y ∷ ys) (cond b (1 + prefix_len (is_below x) ys) 0) x) [
      | true ↦ ap (λ l. y ∷ l) (put_is_insert x ys) ∙ sym (insert-cons y x ys (prefix_len (is_below x) ys))
      | false ↦ refl
    ]

pub put_stays : (x : Text) (ys : List Text) → IsInOrder ys → IsInOrder (put_in_order x ys)
put_stays x ys e = in_order_of (put_in_order x ys) (up_put x ys (up_of ys e))

above_remove : (x : Text) (ys : List Text) (i : ℕ) → Above x ys → Above x (remove ys i)
above_remove x [] zero a = tt
above_remove x [] (suc i) a = tt
above_remove x (y ∷ ys) zero a = a.1
above_remove x (y ∷ ys) (suc i) a = (a.0, above_remove x ys i a.1)

up_remove : (ys : List Text) (i : ℕ) → Up ys → Up (remove ys i)
up_remove [] zero u = tt
up_remove [] (suc i) u = tt
up_remove (y ∷ ys) zero u = u.1
up_remove (y ∷ ys) (suc i) u = (above_remove y ys i u.0, up_remove ys i u.1)

pub remove_stays : (ys : List Text) (i : ℕ) → IsInOrder ys → IsInOrder (remove ys i)
remove_stays ys i e = in_order_of (remove ys i) (up_remove ys i (up_of ys e))

above_at : (x : Text) (ys : List Text) → Above x ys → (k : ℕ) (d : Text) → k < length ys → is_lt (byte_cmp (get_or ys k d) x) ≡ false
above_at x [] a k d below = absurd (omega arith)
above_at x (y ∷ ys) a zero d below = a.0
above_at x (y ∷ ys) a (suc k) d below = above_at x ys a.1 k d (omega arith)

parted_up : (line : Text) (ys : List Text) → Up ys → (i j : ℕ) (d : Text) → i ≤ j → j < length ys → is_below line (get_or ys j d) ≡ true → is_below line (get_or ys i d) ≡ true
parted_up line [] u i j d low high h = absurd (omega arith)
parted_up line (y ∷ ys) u zero zero d low high h = h
parted_up line (y ∷ ys) u zero (suc j) d low high h =
    elim (is_lt (byte_cmp y line)) as (λ b. is_lt (byte_cmp y line) ≡ b → b ≡ true) [
      | true ↦ λ e. refl
      | false ↦ λ e. let n = not_less line y (get_or ys j d) e (above_at y ys u.0 j d (omega arith)) in cc
    ] refl
parted_up line (y ∷ ys) u (suc i) zero d low high h = absurd (omega arith)
parted_up line (y ∷ ys) u (suc i) (suc j) d low high h = parted_up line ys u.1 i j d (omega arith) (omega arith) h

-- what stands before a text that is below a line is below it too
pub parted : (line : Text) (ys : List Text) → IsInOrder ys → (i j : ℕ) (d : Text) → i ≤ j → j < length ys → is_below line (get_or ys j d) ≡ true → is_below line (get_or ys i d) ≡ true
parted line ys e = parted_up line ys (up_of ys e)

abbrev pub hits : Text → Text → ℕ
hits q x = cond (bytes_eq q x) 1 0

hit_is : (q x : Text) → hit (byte_cmp q x) ≡ hits q x
hit_is q x =
    elim (bytes_eq q x) as (λ b. bytes_eq q x ≡ b → hit (byte_cmp q x) ≡ cond b 1 0) [
      | true ↦ λ e. let same : q ≡ x = (bytes_eq-Decides q x).0 e in rw (← same) (ap hit (itself q))
      | false ↦ λ e.
          elim (byte_cmp q x) as (λ r. byte_cmp q x ≡ r → hit r ≡ 0) [
            | Less ↦ λ h. refl
            | Equal ↦ λ h. let t : bytes_eq q x ≡ true = (bytes_eq-Decides q x).1 (exact_bytes q x h) in cc
            | Greater ↦ λ h. refl
          ] refl
    ] refl

pub times_is : (q : Text) (xs : List Text) → count q xs ≡ times q xs
times_is q [] = refl
times_is q (x ∷ xs) = let r = times_is q xs in let h = hit_is q x in omega (arith, r, h, count-cons q x xs, sum_by-cons (hits q) x xs)

-- how a line stands to a text, by how the text stands to the line
other_way : (line y : Text) (r : Ordering) → byte_cmp y line ≡ r → byte_cmp line y ≡ ordering_reverse r
other_way line y r e = nat_list_cmp_total.antisymm line y ∙ ap ordering_reverse e

-- where a line stands that stands somewhere
abbrev pub StandsAt : Text → List Text → ℕ → Type 0
StandsAt line ys n = (n < length ys) × ((d : Text) → get_or ys n d ≡ line)

stands_later : (line y : Text) (ys : List Text) (n : ℕ) → StandsAt line ys n → StandsAt line (y ∷ ys) (1 + n)
stands_later line y ys n s = let e : 1 + n ≡ suc n = omega arith in rw e (omega (arith, s.0), s.1)

stands_up : (line : Text) (ys : List Text) → Up ys → 0 < count line ys → StandsAt line ys (prefix_len (is_below line) ys)
stands_up line [] u some = absurd (omega arith)
stands_up line (y ∷ ys) u some =
    elim (byte_cmp y line) as (λ r. byte_cmp y line ≡ r → StandsAt line (y ∷ ys) (cond (is_lt r) (1 + prefix_len (is_below line) ys) 0)) [
      | Less ↦ λ e.
          let none : hit (byte_cmp line y) ≡ 0 = ap hit (other_way line y Less e) in
          stands_later line y ys (prefix_len (is_below line) ys) (stands_up line ys u.1 (omega (arith, some, none, count-cons line y ys)))
      | Equal ↦ λ e. (omega arith, λ d. exact_bytes y line e)
      | Greater ↦ λ e.
          let less : byte_cmp line y ≡ Less = other_way line y Greater e in
          let none : hit (byte_cmp line y) ≡ 0 = ap hit less in
          absurd (omega (arith, some, none, count-above line y ys less u.0, count-cons line y ys))
    ] refl

-- a line that stands in order stands behind what is below it
pub stands : (line : Text) (ys : List Text) → IsInOrder ys → 0 < times line ys → StandsAt line ys (prefix_len (is_below line) ys)
stands line ys e some = stands_up line ys (up_of ys e) (omega (arith, some, times_is line ys))

pub removal_takes : (line : Text) (ys : List Text) (i : ℕ) → StandsAt line ys i → SameLines ys (line ∷ remove ys i)
removal_takes line ys i s = record {
  often = λ q.
      let e = ap (λ (x : Text). hits q x) (s.1 line) in
      omega (arith, e, sum_by-remove (hits q) ys i line s.0, sum_by-cons (hits q) line (remove ys i));
}

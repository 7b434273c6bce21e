-- Lists in order that become one.
use Rattle.std.proofs.Common.{◌≡◌, ◌≤◌, ◌<◌, ◌+◌, ℕ, true, false, cond, List, [], ◌∷◌, ◌++◌, refl, sym, ap, ◌∙◌, arith, drop, get_or, length, map}
use denote.Ref.{Bor}
use Rattle.std.specs.List.{All}
use Rattle.std.specs.Ordering.{is_lt}
use Rattle.std.proofs.lemmas.List.{append-nil, drop_all, drop_more}
use Rattle.std.proofs.lemmas.List.Elements.{All-cons, All-head, All-tail}
use Rattle.std.proofs.lemmas.List.Sums.{sum_by-append}
use Rattle.design_model.specs.declared.diagnostic.DiagLine.{DiagLine}
use Rattle.design_model.specs.Lines.{IsOfItsKind}
use Rattle.design_model.specs.Order.{byte_cmp, sorted_by_bytes, texts}
use Rattle.kept_lines.specs.Kept.{AreInOrder}
use Rattle.kept_lines.specs.Merging.{left_of, merge}
use Rattle.kept_lines.proofs.Counts.{Above, Up, above_lower, count, count-cons, count-sorted, hit, is_less, not_back, same_lists, up_sorted}
use Rattle.kept_lines.proofs.OrderLemmas.{IsInOrder, sorted_is_in_order, up_of}

abbrev Text : Type 0
Text = List ℕ

abbrev merge_texts : List Text → List Text → List Text
merge_texts = merge (λ t. t)

-- what a function gives of both lists in one
pub map-merge : {X Y : Type 0} (f : X → Y) (text : Y → Text) (xs ys : List X) → map f (merge (λ x. text (f x)) xs ys) ≡ merge text (map f xs) (map f ys)
map-merge f text [] ys = refl
map-merge f text (x ∷ xs) [] = refl
map-merge f text (x ∷ xs) (y ∷ ys) =
    elim (is_lt (byte_cmp (text (f y)) (text (f x)))) as (λ b. map f (cond b (y ∷ merge (λ x. text (f x)) (x ∷ xs) ys) (x ∷ merge (λ x. text (f x)) xs (y ∷ ys))) ≡ cond b (f y ∷ merge text (map f (x ∷ xs)) (map f ys)) (f x ∷ merge text (map f xs) (map f (y ∷ ys)))) [
      | true ↦ ap (λ l. f y ∷ l) (map-merge f text (x ∷ xs) ys)
      | false ↦ ap (λ l. f x ∷ l) (map-merge f text xs (y ∷ ys))
    ]

above_merge : (z : Text) (xs ys : List Text) → Above z xs → Above z ys → Above z (merge_texts xs ys)
above_merge z [] ys a b = b
above_merge z (x ∷ xs) [] a b = a
above_merge z (x ∷ xs) (y ∷ ys) a b =
    elim (is_lt (byte_cmp y x)) as (λ t. Above z (cond t (y ∷ merge_texts (x ∷ xs) ys) (x ∷ merge_texts xs (y ∷ ys)))) [
      | true ↦ (b.0, above_merge z (x ∷ xs) ys a b.1)
      | false ↦ (a.0, above_merge z xs (y ∷ ys) a.1 b)
    ]

up_merge : (xs ys : List Text) → Up xs → Up ys → Up (merge_texts xs ys)
up_merge [] ys u v = v
up_merge (x ∷ xs) [] u v = u
up_merge (x ∷ xs) (y ∷ ys) u v =
    elim (is_lt (byte_cmp y x)) as (λ t. is_lt (byte_cmp y x) ≡ t → Up (cond t (y ∷ merge_texts (x ∷ xs) ys) (x ∷ merge_texts xs (y ∷ ys)))) [
      | true ↦ λ e.
          let back : is_lt (byte_cmp x y) ≡ false = not_back x y (is_less _ e) in
          (above_merge y (x ∷ xs) ys (back, above_lower y x xs back u.0) v.0, up_merge (x ∷ xs) ys u v.1)
      | false ↦ λ e. (above_merge x xs (y ∷ ys) u.0 (e, above_lower x y ys e v.0), up_merge xs (y ∷ ys) u.1 v)
    ] refl

count-merge : (q : Text) (xs ys : List Text) → count q (merge_texts xs ys) ≡ count q xs + count q ys
count-merge q [] ys = omega arith
count-merge q (x ∷ xs) [] = omega arith
count-merge q (x ∷ xs) (y ∷ ys) =
    elim (is_lt (byte_cmp y x)) as (λ t. count q (cond t (y ∷ merge_texts (x ∷ xs) ys) (x ∷ merge_texts xs (y ∷ ys))) ≡ count q (x ∷ xs) + count q (y ∷ ys)) [
      | true ↦ omega (arith, count-merge q (x ∷ xs) ys, count-cons q y (merge_texts (x ∷ xs) ys), count-cons q y ys)
      | false ↦ omega (arith, count-merge q xs (y ∷ ys), count-cons q x (merge_texts xs (y ∷ ys)), count-cons q x xs)
    ]

pub merged_is_sorted : (xs ys : List Text) → IsInOrder xs → IsInOrder ys → merge_texts xs ys ≡ sorted_by_bytes (xs ++ ys)
merged_is_sorted xs ys a b =
    same_lists (merge_texts xs ys) (sorted_by_bytes (xs ++ ys)) (up_merge xs ys (up_of xs a) (up_of ys b)) (up_sorted (xs ++ ys))
    (λ q. omega (arith, count-merge q xs ys, count-sorted q (xs ++ ys), sum_by-append (λ x. hit (byte_cmp q x)) xs ys))

-- a list that is sorted behind another is one that will be
sorted_behind : (xs ys : List Text) → sorted_by_bytes (xs ++ sorted_by_bytes ys) ≡ sorted_by_bytes (xs ++ ys)
sorted_behind xs ys =
    same_lists (sorted_by_bytes (xs ++ sorted_by_bytes ys)) (sorted_by_bytes (xs ++ ys)) (up_sorted (xs ++ sorted_by_bytes ys)) (up_sorted (xs ++ ys))
    (λ q. omega (arith, count-sorted q ys, count-sorted q (xs ++ ys), count-sorted q (xs ++ sorted_by_bytes ys), sum_by-append (λ x. hit (byte_cmp q x)) xs ys, sum_by-append (λ x. hit (byte_cmp q x)) xs (sorted_by_bytes ys)))

-- lines of which the last are sorted already, as they are and as they will be
pub parts_sorted : (xs ys ss ts first second third : List Text) → xs ≡ first → ys ≡ sorted_by_bytes (ss ++ ts) → ss ≡ second → ts ≡ third
    → sorted_by_bytes (xs ++ ys) ≡ sorted_by_bytes (first ++ (second ++ third))
parts_sorted xs ys ss ts first second third one both two three =
    ap (λ l. sorted_by_bytes (l ++ ys)) one ∙ ap (λ l. sorted_by_bytes (first ++ l)) both ∙ sorted_behind first (ss ++ ts)
    ∙ ap (λ l. sorted_by_bytes (first ++ (l ++ ts))) two ∙ ap (λ l. sorted_by_bytes (first ++ (second ++ l))) three

module _ {X : Type 0} (text : X → Text) where
  merge-nil : (xs : List X) → merge text xs [] ≡ xs
  merge-nil [] = refl
  merge-nil (x ∷ xs) = refl

  All-merge : (P : X → Type 0) (xs ys : List X) → All P xs → All P ys → All P (merge text xs ys)
  All-merge P [] ys a b = b
  All-merge P (x ∷ xs) [] a b = a
  All-merge P (x ∷ xs) (y ∷ ys) a b =
      elim (is_lt (byte_cmp (text y) (text x))) as (λ t. All P (cond t (y ∷ merge text (x ∷ xs) ys) (x ∷ merge text xs (y ∷ ys)))) [
        | true ↦ All-cons P y _ (All-head P y ys b) (All-merge P (x ∷ xs) ys a (All-tail P y ys b))
        | false ↦ All-cons P x _ (All-head P x xs a) (All-merge P xs (y ∷ ys) (All-tail P x xs a) b)
      ]

-- the next line, where the second list is at its end
pub second_ends : {A : Type 0} (first second : List (Bor (DiagLine A))) (i j : ℕ) (x : Bor (DiagLine A)) → i < length first → x ≡ get_or first i x → length second ≤ j
    → left_of first second i j ≡ x ∷ left_of first second (i + 1) j
second_ends {A = A} first second i j x below is end =
    let text : Bor (DiagLine A) → Text = λ l. l.now.text in
    let start : drop i first ≡ x ∷ drop (i + 1) first = drop_more first i x below ∙ ap (λ y. y ∷ drop (i + 1) first) (sym is) in
    let none : drop j second ≡ [] = drop_all j second end in
    ap (λ l. merge text l (drop j second)) start ∙ ap (λ l. merge text (x ∷ drop (i + 1) first) l) none
    ∙ ap (λ l. x ∷ l) (sym (merge-nil text (drop (i + 1) first)) ∙ ap (λ l. merge text (drop (i + 1) first) l) (sym none))

-- what was pushed is all, where nothing is left
pub all_pushed : {X : Type 0} (pushed left all : List X) → pushed ++ left ≡ all → left ≡ [] → pushed ≡ all
all_pushed pushed left all e none = sym (append-nil pushed) ∙ ap (λ l. pushed ++ l) (sym none) ∙ e

module _ {A : Type 0} (first second merged : List (Bor (DiagLine A))) (is : merged ≡ merge (λ l. l.now.text) first second) (a : AreInOrder (map (λ l. l.now) first)) (b : AreInOrder (map (λ l. l.now) second)) where
  merged_lines : map (λ l. l.now) merged ≡ merge (λ l. l.text) (map (λ l. l.now) first) (map (λ l. l.now) second)
  merged_lines = ap (λ m. map (λ (l : Bor (DiagLine A)). l.now) m) is ∙ map-merge (λ l. l.now) (λ l. l.text) first second

  pub merged_texts : texts (map (λ l. l.now) merged) ≡ sorted_by_bytes (texts (map (λ l. l.now) first) ++ texts (map (λ l. l.now) second))
  merged_texts =
      ap texts merged_lines ∙ map-merge (λ l. l.text) (λ t. t) (map (λ l. l.now) first) (map (λ l. l.now) second)
      ∙ merged_is_sorted (texts (map (λ l. l.now) first)) (texts (map (λ l. l.now) second)) a.order b.order

  pub merged_in_order : AreInOrder (map (λ l. l.now) merged)
  merged_in_order = record {
    order = rw merged_texts (sorted_is_in_order (texts (map (λ l. l.now) first) ++ texts (map (λ l. l.now) second)));
    kinds = rw merged_lines (record { each = All-merge (λ l. l.text) IsOfItsKind _ _ a.kinds.each b.kinds.each });
  }

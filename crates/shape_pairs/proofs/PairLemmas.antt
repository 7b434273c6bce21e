-- The lines of pairs that meet.
use Rattle.std.proofs.Common.{◌≡◌, ℕ, Bool, false, List, [], ◌∷◌, ◌++◌, map, filter, append_assoc, refl, sym, ap, ◌∙◌}
use Rattle.std.specs.List.{flat_map}
use Rattle.shape_rules.specs.Meeting.{meets, pairs_of}
use Rattle.design_model.specs.Families.{pair_lines}
use Rattle.line_laws.specs.Lines.{times}
use Rattle.line_laws.proofs.PairSums.{times-flat_map}
use Rattle.shape_pairs.specs.PairLaws.{lines_of_pairs, boxes_meeting, MeetingPairsHaveTheLines, SamePairsHaveTheLines, PairsOfMapped}
use Rattle.shape_pairs.proofs.Calls.{split}

lines_append : {A : Type 0} (f : A → List (List ℕ)) (xs ys : List A) → flat_map f (xs ++ ys) ≡ flat_map f xs ++ flat_map f ys
lines_append f [] ys = refl
lines_append f (x ∷ xs) ys = ap (λ zs. f x ++ zs) (lines_append f xs ys) ∙ sym (append_assoc (f x) (flat_map f xs) (flat_map f ys))

-- what has no lines may be left out
lines_filter : {A : Type 0} (f : A → List (List ℕ)) (p : A → Bool) → ((x : A) → p x ≡ false → f x ≡ []) → (xs : List A) → flat_map f (filter p xs) ≡ flat_map f xs
lines_filter f p none [] = refl
lines_filter f p none (x ∷ xs) =
    let r = lines_filter f p none xs in
    split (p x) (λ t. rw t (ap (λ zs. f x ++ zs) r)) (λ t. rw (t, none x t) r)

lines_with_one : {A : Type 0} (compare : A → A → List (List ℕ)) (x : A) (ys : List A) → flat_map (compare x) ys ≡ lines_of_pairs compare (map (λ y. (x, y)) ys)
lines_with_one compare x [] = refl
lines_with_one compare x (y ∷ ys) = ap (λ zs. compare x y ++ zs) (lines_with_one compare x ys)

lines_are_of_pairs : {A : Type 0} (compare : A → A → List (List ℕ)) (xs : List A) → pair_lines compare xs ≡ lines_of_pairs compare (pairs_of xs)
lines_are_of_pairs compare [] = refl
lines_are_of_pairs compare (x ∷ xs) =
    ap (λ zs. zs ++ pair_lines compare xs) (lines_with_one compare x xs)
    ∙ ap (λ zs. lines_of_pairs compare (map (λ y. (x, y)) xs) ++ zs) (lines_are_of_pairs compare xs)
    ∙ sym (lines_append (λ p. compare p.0 p.1) (map (λ y. (x, y)) xs) (pairs_of xs))

pub meeting_pairs_have_the_lines : (A : Type 0) → MeetingPairsHaveTheLines A
meeting_pairs_have_the_lines A compare box xs none =
    lines_are_of_pairs compare xs ∙ sym (lines_filter (λ p. compare p.0 p.1) (λ p. meets (box p.0) (box p.1)) (λ p apart. none p.0 p.1 apart) (pairs_of xs))

pub same_pairs_have_the_lines : (A : Type 0) → SamePairsHaveTheLines A
same_pairs_have_the_lines A compare box xs met none same = record {
  often = λ q.
      ap (times q) (meeting_pairs_have_the_lines A compare box xs none)
      ∙ times-flat_map q (λ p. compare p.0 p.1) (boxes_meeting box xs)
      ∙ sym (same.sums (λ p. times q (compare p.0 p.1)))
      ∙ sym (times-flat_map q (λ p. compare p.0 p.1) met);
}

map_append : {A B : Type 0} (f : A → B) (xs ys : List A) → map f (xs ++ ys) ≡ map f xs ++ map f ys
map_append f [] ys = refl
map_append f (x ∷ xs) ys = ap (λ zs. f x ∷ zs) (map_append f xs ys)

with_mapped : {A B : Type 0} (g : A → B) (x : A) (ys : List A) → map {B = B × B} (λ y. (g x, y)) (map g ys) ≡ map {B = B × B} (λ p. (g p.0, g p.1)) (map {B = A × A} (λ y. (x, y)) ys)
with_mapped g x [] = refl
with_mapped {B = B} g x (y ∷ ys) = ap (λ (zs : List (B × B)). (g x, g y) ∷ zs) (with_mapped g x ys)

pub pairs_of_mapped : (A B : Type 0) → PairsOfMapped A B
pairs_of_mapped A B g [] = refl
pairs_of_mapped A B g (x ∷ xs) =
    ap (λ (zs : List (B × B)). zs ++ pairs_of (map g xs)) (with_mapped g x xs)
    ∙ ap (λ (zs : List (B × B)). map {B = B × B} (λ p. (g p.0, g p.1)) (map {B = A × A} (λ y. (x, y)) xs) ++ zs) (pairs_of_mapped A B g xs)
    ∙ sym (map_append {B = B × B} (λ p. (g p.0, g p.1)) (map {B = A × A} (λ y. (x, y)) xs) (pairs_of xs))

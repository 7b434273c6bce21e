-- Boxes that are left out share no area with the one that is compared.
use Rattle.std.proofs.Common.{◌≡◌, ◌≤◌, ◌<◌, ◌+◌, ℕ, suc, ◌≤ℤ◌, Bool, true, false, not, List, [], ◌∷◌, ◌++◌, filter, flat_map, map, length, get_or, refl, sym, ap, ◌∙◌, arith, append_assoc, ⊎_elim, if◌then◌else◌, drop, drop-cons, add-one}
use Rattle.std.specs.Prelude.{int_lt, ◌&&◌}
use Rattle.std.specs.Int.{int_min, int_max}
use Rattle.std.specs.List.{All}
use Rattle.std.specs.Ordering.{is_lt}
use Rattle.std.proofs.lemmas.Bool.{cases_Bool as cases}
use Rattle.std.proofs.lemmas.Int.{ints, clamps}
use Rattle.std.proofs.lemmas.List.Elements.{All-cons, All-head, All-tail, All-weaker}
use Rattle.std.proofs.lemmas.Grind.{flat_map-append}
use Rattle.std.proofs.lemmas.List.{map-append}
use Rattle.std.proofs.lemmas.List.Filters.{length-filter_both}
use Rattle.std.proofs.lemmas.List.Folds.{flat_map-map}
use Rattle.std.proofs.lemmas.List.Sorted.{sorted_far}
use Rattle.design_model.specs.Geometry.{Rectangle, overlap}
use Rattle.design_model.specs.Views.{rectangle_of}
use Rattle.design_model.specs.Families.{lines_with, pair_lines}
use Rattle.design_rules.specs.OverlapLines.{overlap_of}
use Rattle.place_checks.specs.declared.swept_box.SweptBox.{SweptBox}
use Rattle.place_checks.specs.Sweep.{FromLeft, InSweepOrder, sweep_cmp}
use Rattle.place_checks.specs.Views.{swept_view}
use Rattle.place_checks.proofs.SweepLemmas.{drop_from_left, is_order, not_above, not_right, not_below_of, not_below_test}

abbrev Lines : Type 0
Lines = List (List ℕ)

-- not so where one of two is not
fails_first : (a b : Bool) → a ≡ false → (a && b) ≡ false
fails_first true b e = cc
fails_first false b e = refl

fails_second : (a b : Bool) → b ≡ false → (a && b) ≡ false
fails_second true b e = e
fails_second false b e = refl

-- a rectangle at or right of another, or at or above it, shares no area with it
pub apart_right : (a b : Rectangle) → a.x2 ≤ℤ b.x1 → overlap a b ≡ false
apart_right a b h = fails_first _ _ (not_below_test (int_max a.x1 b.x1) (int_min a.x2 b.x2) (omega (arith, ints, clamps)))

pub apart_left : (a b : Rectangle) → a.x2 ≤ℤ b.x1 → overlap b a ≡ false
apart_left a b h = fails_first _ _ (not_below_test (int_max b.x1 a.x1) (int_min b.x2 a.x2) (omega (arith, ints, clamps)))

pub apart_above : (a b : Rectangle) → a.y2 ≤ℤ b.y1 → overlap a b ≡ false
apart_above a b h = fails_second _ _ (not_below_test (int_max a.y1 b.y1) (int_min a.y2 b.y2) (omega (arith, ints, clamps)))

pub apart_below : (a b : Rectangle) → a.y2 ≤ℤ b.y1 → overlap b a ≡ false
apart_below a b h = fails_second _ _ (not_below_test (int_max b.y1 a.y1) (int_min b.y2 a.y2) (omega (arith, ints, clamps)))

-- what gives no line can be left out
pub left_out : (f : SweptBox → Lines) (p : SweptBox → Bool) (xs : List SweptBox) → All (λ x. p x ≡ false → f x ≡ []) xs → flat_map f (filter p xs) ≡ flat_map f xs
left_out f p [] h = refl
left_out f p (x ∷ xs) h =
    let rest = left_out f p xs (All-tail (λ x. p x ≡ false → f x ≡ []) x xs h) in
    ⊎_elim
    (λ (yes : p x ≡ true). rw yes (ap (λ (ls : Lines). f x ++ ls) rest))
    (λ (no : p x ≡ false). let none : f x ≡ [] = All-head (λ x. p x ≡ false → f x ≡ []) x xs h no in rw (no, none) rest)
    (cases (p x))

-- the lines of a box with others
abbrev pub lines_of : SweptBox → List SweptBox → Lines
lines_of first xs = lines_with overlap_of (swept_view first) (map swept_view xs)

abbrev line_of : SweptBox → SweptBox → Lines
line_of first b = overlap_of (swept_view first) (swept_view b)

no_line : (first b : SweptBox) → overlap (rectangle_of first.rect) (rectangle_of b.rect) ≡ false → line_of first b ≡ []
no_line first b e = rw e refl

lines_are : (first : SweptBox) (xs : List SweptBox) → lines_of first xs ≡ flat_map (line_of first) xs
lines_are first xs = flat_map-map (overlap_of (swept_view first)) swept_view xs

same_lines : (first : SweptBox) (p : SweptBox → Bool) (xs ys : List SweptBox) → ys ≡ filter p xs → All (λ x. p x ≡ false → line_of first x ≡ []) xs → lines_of first ys ≡ lines_of first xs
same_lines first p xs ys is h = lines_are first ys ∙ ap (flat_map (line_of first)) is ∙ left_out (line_of first) p xs h ∙ sym (lines_are first xs)

-- those that begin at or above a box's upper edge
pub lines_below : (first : SweptBox) (xs ys : List SweptBox) → ys ≡ filter (λ b. int_lt b.rect.y1 first.rect.y2) xs → lines_of first ys ≡ lines_of first xs
lines_below first xs ys is = same_lines first (λ b. int_lt b.rect.y1 first.rect.y2) xs ys is
    (λ k d low no. no_line first (get_or xs k d) (apart_above (rectangle_of first.rect) (rectangle_of (get_or xs k d).rect) (not_below_of _ _ no)))

-- none of those behind a box comes before it
none_before : (next : SweptBox) (behind : List SweptBox) → InSweepOrder (next ∷ behind) → All (λ (b : SweptBox). is_lt (sweep_cmp b.rect next.rect) ≡ false) behind
none_before next behind s k d below = sorted_far _ is_order (next ∷ behind) s.rises 0 (suc k) d (omega arith) (omega arith)

pub sorted_behind : (next : SweptBox) (behind : List SweptBox) → InSweepOrder (next ∷ behind) → InSweepOrder behind
sorted_behind next behind s = record {
  rises = λ k d low high. sorted_far _ is_order (next ∷ behind) s.rises (suc k) (suc (k + 1)) d (omega arith) (omega arith);
}

-- those at the height of a box that isn't left of the right edge
pub lines_above : (first next : SweptBox) (behind ys : List SweptBox) → InSweepOrder (next ∷ behind) → int_lt next.rect.x1 first.rect.x2 ≡ false
    → ys ≡ filter (λ b. int_lt next.rect.y1 b.rect.y1) behind → lines_of first ys ≡ lines_of first behind
lines_above first next behind ys s right is = same_lines first (λ b. int_lt next.rect.y1 b.rect.y1) behind ys is
    (λ k d low no.
    let b : SweptBox = get_or behind k d in
    let from : first.rect.x2 ≤ℤ next.rect.x1 = not_below_of _ _ right in
    let on : next.rect.x1 ≤ℤ b.rect.x1 = not_right next.rect b.rect (none_before next behind s k d low) (not_below_of _ _ no) in
    let apart : first.rect.x2 ≤ℤ b.rect.x1 = omega (arith, ints) in
    no_line first b (apart_right (rectangle_of first.rect) (rectangle_of b.rect) apart))

pub lines_left : (first next : SweptBox) (behind ys : List SweptBox) → InSweepOrder (next ∷ behind)
    → ys ≡ (if int_lt next.rect.x1 first.rect.x2 then behind else filter (λ b. int_lt next.rect.y1 b.rect.y1) behind) → lines_of first ys ≡ lines_of first behind
lines_left first next behind ys s is = ⊎_elim
    (λ (yes : int_lt next.rect.x1 first.rect.x2 ≡ true). ap (lines_of first) (rw yes at is))
    (λ (no : int_lt next.rect.x1 first.rect.x2 ≡ false). lines_above first next behind ys s no (rw no at is))
    (cases (int_lt next.rect.x1 first.rect.x2))

-- one box more is compared
pub one_compared : (first next : SweptBox) (behind left rest all : List SweptBox) (old new begun : Lines) → InSweepOrder left → left ≡ next ∷ behind
    → rest ≡ (if int_lt next.rect.x1 first.rect.x2 then behind else filter (λ b. int_lt next.rect.y1 b.rect.y1) behind)
    → new ≡ old ++ overlap_of (swept_view first) (swept_view next) → old ++ lines_of first left ≡ begun ++ lines_of first all → new ++ lines_of first rest ≡ begun ++ lines_of first all
one_compared first next behind left rest all old new begun s split is added so_far =
    let same = lines_left first next behind rest (rw split at s) is in
    rw (added, same, append_assoc) (rw split at so_far)

pub sorted_from : (next : SweptBox) (behind left : List SweptBox) → left ≡ next ∷ behind → InSweepOrder left → InSweepOrder behind
sorted_from next behind left split s = sorted_behind next behind (rw split at s)

fewer_pass : (p : SweptBox → Bool) (xs : List SweptBox) → length (filter p xs) ≤ length xs
fewer_pass p xs = let both = length-filter_both p (λ x. not (p x)) (λ x. refl) xs in omega arith

pub fewer_left : (first next : SweptBox) (behind left rest : List SweptBox) → left ≡ next ∷ behind
    → rest ≡ (if int_lt next.rect.x1 first.rect.x2 then behind else filter (λ b. int_lt next.rect.y1 b.rect.y1) behind) → length rest < length left
fewer_left first next behind left rest split is = rw (split, is) (⊎_elim
    (λ (yes : int_lt next.rect.x1 first.rect.x2 ≡ true). rw yes (omega arith))
    (λ (no : int_lt next.rect.x1 first.rect.x2 ≡ false). rw no (let few = fewer_pass (λ b. int_lt next.rect.y1 b.rect.y1) behind in omega arith))
    (cases (int_lt next.rect.x1 first.rect.x2)))

-- the lines of all pairs of boxes
abbrev pub pairs_of : List SweptBox → Lines
pairs_of boxes = pair_lines overlap_of (map swept_view boxes)

pub left_from : {T : Type 0} (boxes : List T) (i : ℕ) (x : T) → i < length boxes → x ≡ get_or boxes i x → drop i boxes ≡ x ∷ drop (i + 1) boxes
left_from boxes i x below is = rw (add-one, drop-cons boxes i x, ← is) refl

-- one box more of a row is compared
pub one_beside : (first next : SweptBox) (row : List SweptBox) (i : ℕ) (old new all : Lines) → i < length row → next ≡ get_or row i next → new ≡ old ++ overlap_of (swept_view first) (swept_view next)
    → old ++ lines_of first (drop i row) ≡ all → new ++ lines_of first (drop (i + 1) row) ≡ all
one_beside first next row i old new all below is added so_far = rw (added, append_assoc) (rw (left_from row i next below is) at so_far)

-- boxes that share no area with one give no line with it
no_lines : (first : SweptBox) (xs : List SweptBox) → All (λ (b : SweptBox). overlap (rectangle_of first.rect) (rectangle_of b.rect) ≡ false) xs → lines_of first xs ≡ []
no_lines first [] apart = refl
no_lines first (x ∷ xs) apart =
    let P : SweptBox → Type 0 = λ b. overlap (rectangle_of first.rect) (rectangle_of b.rect) ≡ false in
    let rest = no_lines first xs (All-tail P x xs apart) in
    let none = no_line first x (All-head P x xs apart) in
    rw (none, rest) refl

-- nor do a box of a row that begins at or right of the right edge, and those behind it
pub none_right : (first next : SweptBox) (row : List SweptBox) (i : ℕ) → FromLeft row → i < length row → next ≡ get_or row i next → first.rect.x2 ≤ℤ next.rect.x1 → lines_of first (drop i row) ≡ []
none_right first next row i s below is right =
    let here = left_from row i next below is in
    let behind = drop (i + 1) row in
    let sorted : FromLeft (next ∷ behind) = rw here at (drop_from_left i row s) in
    let far : All (λ (b : SweptBox). next.rect.x1 ≤ℤ b.rect.x1) behind = λ k d low. sorted.rises 0 (suc k) d (omega arith) (omega (arith, low)) in
    let apart : (b : SweptBox) → next.rect.x1 ≤ℤ b.rect.x1 → overlap (rectangle_of first.rect) (rectangle_of b.rect) ≡ false = λ b on. apart_right (rectangle_of first.rect) (rectangle_of b.rect) (omega (arith, ints)) in
    let P : SweptBox → Type 0 = λ b. overlap (rectangle_of first.rect) (rectangle_of b.rect) ≡ false in
    rw here (no_lines first (next ∷ behind) (All-cons P next behind (apart next (omega (arith, ints))) (All-weaker (λ (b : SweptBox). next.rect.x1 ≤ℤ b.rect.x1) P apart behind far)))

-- nor do one that begins at or above the upper edge, and those behind it
pub none_above : (first next : SweptBox) (behind left : List SweptBox) → InSweepOrder left → left ≡ next ∷ behind → first.rect.y2 ≤ℤ next.rect.y1 → lines_of first left ≡ []
none_above first next behind left s split high =
    rw split (no_lines first (next ∷ behind) (λ k d low.
    let b : SweptBox = get_or (next ∷ behind) k d in
    let up : next.rect.y1 ≤ℤ b.rect.y1 = not_above next.rect b.rect (sorted_far _ is_order (next ∷ behind) (rw split at s).rises 0 k d (omega arith) low) in
    apart_above (rectangle_of first.rect) (rectangle_of b.rect) (omega (arith, ints))))

-- one box of a row has its lines with those behind it and those above the row
pub one_box : (row above : List SweptBox) (i : ℕ) (x : SweptBox) (old beside new all : Lines) → i < length row → x ≡ get_or row i x → beside ≡ old ++ lines_of x (drop (i + 1) row) → new ≡ beside ++ lines_of x above
    → old ++ pairs_of (drop i row ++ above) ≡ all → new ++ pairs_of (drop (i + 1) row ++ above) ≡ all
one_box row above i x old beside new all below is one more so_far =
    let both : lines_of x (drop (i + 1) row ++ above) ≡ lines_of x (drop (i + 1) row) ++ lines_of x above =
    ap (flat_map (overlap_of (swept_view x))) (map-append swept_view (drop (i + 1) row) above) ∙ flat_map-append (overlap_of (swept_view x)) (map swept_view (drop (i + 1) row)) (map swept_view above) in
    rw (more, one, append_assoc, append_assoc) (rw (left_from row i x below is, both, append_assoc) at so_far)

-- one row more
pub one_row : (left row above : List SweptBox) (old new all : Lines) → row ++ above ≡ left → new ++ pairs_of above ≡ old ++ pairs_of (row ++ above) → old ++ pairs_of left ≡ all → new ++ pairs_of above ≡ all
one_row left row above old new all is added so_far = added ∙ rw is so_far

-- which takes a box at least
pub fewer_above : (first : SweptBox) (behind left above : List SweptBox) → left ≡ first ∷ behind → above ≡ filter (λ b. int_lt first.rect.y1 b.rect.y1) left → length above < length left
fewer_above first behind left above split is =
    let few = fewer_pass (λ b. int_lt first.rect.y1 b.rect.y1) behind in
    let not_itself : int_lt first.rect.y1 first.rect.y1 ≡ false = not_below_test first.rect.y1 first.rect.y1 (omega (arith, ints)) in
    rw (is, split, not_itself) (omega (arith, few))

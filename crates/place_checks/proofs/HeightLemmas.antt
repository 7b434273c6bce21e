-- The tallest of boxes, and which of them reach a rectangle.
use Rattle.std.proofs.Common.{◌≡◌, ◌≤◌, ◌<◌, ◌+◌, ℕ, ℤ, pos, ◌+ℤ◌, ◌≤ℤ◌, Bool, false, List, [], ◌∷◌, ◌++◌, filter, flat_map, take, drop, map, length, get_or, refl, sym, ap, ◌∙◌, arith, add-one, drop-cons, append_assoc}
use Rattle.std.specs.Prelude.{int_lt}
use Rattle.std.specs.Int.Signed.{le_z}
use Rattle.std.specs.Ordering.{nat_cmp, ord_max}
use Rattle.std.proofs.Math.ListN.{drop_of_length-le}
use Rattle.std.proofs.lemmas.Bool.Decides.{nat_tests}
use Rattle.std.proofs.lemmas.List.{append-nil}
use Rattle.std.specs.List.{All}
use Rattle.std.proofs.lemmas.Int.{ints}
use Rattle.std.proofs.lemmas.List.Elements.{All-filter, All-more, All-weaker}
use Rattle.std.proofs.lemmas.List.Folds.{flat_map-map}
use Rattle.design_model.specs.declared.geometry.Rect.{Rect}
use Rattle.design_model.specs.Geometry.{Rectangle, overlap}
use Rattle.design_model.specs.Views.{rectangle_of}
use Rattle.design_rules.specs.Boxes.{Boxed}
use Rattle.design_model.specs.Families.{cross_lines}
use Rattle.design_rules.specs.PlaceLines.{blocked_of}
use Rattle.line_laws.specs.Lines.{SameLines}
use Rattle.line_laws.specs.EachLaws.{CrossesTurn}
use Rattle.line_laws.proofs.SameSums.{lines_are_their_own, same_lines_append, same_lines_turn}
use Rattle.place_checks.specs.declared.swept_box.SweptBox.{SweptBox}
use Rattle.place_checks.specs.Heights.{NoneTaller}
use Rattle.place_checks.specs.Views.{swept_view}
use Rattle.place_checks.proofs.SkipLemmas.{apart_above, apart_below, left_out}
use Rattle.place_checks.proofs.SweepLemmas.{Follows, not_above, up_to_of, up_to_test, not_below_of}

abbrev Lines : Type 0
Lines = List (List ℕ)

higher : (b : SweptBox) (t u : ℕ) → t ≤ u → b.rect.y2 ≤ℤ (b.rect.y1 +ℤ pos t) → b.rect.y2 ≤ℤ (b.rect.y1 +ℤ pos u)
higher b t u more h = omega (arith, ints)

-- one box more
pub one_taller : (xs : List SweptBox) (i : ℕ) (x : SweptBox) (t h u : ℕ) → i < length xs → x ≡ get_or xs i x → x.rect.y1 +ℤ pos h ≡ x.rect.y2 → t ≤ u → h ≤ u
    → NoneTaller (take i xs) t → NoneTaller (take (i + 1) xs) u
one_taller xs i x t h u below is tall more enough so_far =
    let P : SweptBox → Type 0 = λ b. b.rect.y2 ≤ℤ (b.rect.y1 +ℤ pos u) in
    let those = All-weaker (λ (b : SweptBox). b.rect.y2 ≤ℤ (b.rect.y1 +ℤ pos t)) P (λ b. higher b t u more) (take i xs) so_far.each in
    let this : P x = omega (arith, ints) in
    record { each = All-more P xs i x below those (rw (← is) this) }

pub follows_under : (h : ℕ) (y : ℤ) → Follows (λ b. le_z (b.rect.y1 +ℤ pos h) y)
follows_under h y a b e pass =
    let up = not_above a.rect b.rect e in
    let under = up_to_of (b.rect.y1 +ℤ pos h) y pass in
    up_to_test (a.rect.y1 +ℤ pos h) y (omega (arith, ints))

-- the lines of boxes with one rectangle
abbrev pub lines_on : Rect → List SweptBox → Lines
lines_on x bs = flat_map (λ c. blocked_of c (rectangle_of x)) (map swept_view bs)

abbrev line_on : Rect → SweptBox → Lines
line_on x b = blocked_of (swept_view b) (rectangle_of x)

no_line_on : (x : Rect) (b : SweptBox) → overlap (rectangle_of b.rect) (rectangle_of x) ≡ false → line_on x b ≡ []
no_line_on x b e = rw e refl

same_lines_on : (x : Rect) (p : SweptBox → Bool) (xs ys : List SweptBox) → ys ≡ filter p xs → All (λ b. p b ≡ false → line_on x b ≡ []) xs → lines_on x ys ≡ lines_on x xs
same_lines_on x p xs ys is h =
    let f : Boxed → Lines = λ c. blocked_of c (rectangle_of x) in
    flat_map-map f swept_view ys ∙ ap (flat_map (line_on x)) is ∙ left_out (line_on x) p xs h ∙ sym (flat_map-map f swept_view xs)

-- boxes that begin at or above a rectangle's upper edge, or end at or below its lower edge, have no line with it
pub lines_near : (x : Rect) (t : ℕ) (boxes below near : List SweptBox) → NoneTaller boxes t → below ≡ filter (λ b. int_lt b.rect.y1 x.y2) boxes
    → near ≡ filter (λ b. int_lt x.y1 (b.rect.y1 +ℤ pos t)) below → lines_on x near ≡ lines_on x boxes
lines_near x t boxes below near short low high =
    let tall : SweptBox → Type 0 = λ b. b.rect.y2 ≤ℤ (b.rect.y1 +ℤ pos t) in
    let short_below : All tall below = rw low (All-filter (λ b. int_lt b.rect.y1 x.y2) tall boxes short.each) in
    same_lines_on x (λ b. int_lt x.y1 (b.rect.y1 +ℤ pos t)) below near high
    (λ k d in_range no.
    let b : SweptBox = get_or below k d in
    let reach : b.rect.y2 ≤ℤ (b.rect.y1 +ℤ pos t) = short_below k d in_range in
    let under : (b.rect.y1 +ℤ pos t) ≤ℤ x.y1 = not_below_of x.y1 (b.rect.y1 +ℤ pos t) no in
    let apart : b.rect.y2 ≤ℤ x.y1 = omega (arith, ints) in
    no_line_on x b (apart_above (rectangle_of b.rect) (rectangle_of x) apart))
    ∙ same_lines_on x (λ b. int_lt b.rect.y1 x.y2) boxes below low
    (λ k d in_range no. no_line_on x (get_or boxes k d) (apart_below (rectangle_of x) (rectangle_of (get_or boxes k d).rect) (not_below_of _ _ no)))

-- the lines of each rectangle with each box
abbrev pub lines_on_all : List Rect → List SweptBox → Lines
lines_on_all xs bs = cross_lines (λ x c. blocked_of c x) (map rectangle_of xs) (map swept_view bs)

left_from : (xs : List Rect) (i : ℕ) (x : Rect) → i < length xs → x ≡ get_or xs i x → drop i xs ≡ x ∷ drop (i + 1) xs
left_from xs i x below is = rw (add-one, drop-cons xs i x, ← is) refl

-- one rectangle more
pub one_rectangle : (xs : List Rect) (bs near : List SweptBox) (i : ℕ) (x : Rect) (old new all : Lines) → i < length xs → x ≡ get_or xs i x → lines_on x near ≡ lines_on x bs
    → new ≡ old ++ lines_on x near → old ++ lines_on_all (drop i xs) bs ≡ all → new ++ lines_on_all (drop (i + 1) xs) bs ≡ all
one_rectangle xs bs near i x old new all below is same added so_far =
    rw (added, same, append_assoc) (rw (left_from xs i x below is) at so_far)

pub turned_lines : CrossesTurn Boxed Rectangle → (boxes : List SweptBox) (rects : List Rect) (old lines : Lines) → lines ≡ old ++ lines_on_all rects boxes
    → SameLines lines (old ++ cross_lines blocked_of (map swept_view boxes) (map rectangle_of rects))
turned_lines turn boxes rects old lines is =
    let turned = same_lines_turn _ _ (turn blocked_of (map swept_view boxes) (map rectangle_of rects)) in
    rw is (same_lines_append old old _ _ (lines_are_their_own old) turned)

pub all_rectangles : (xs : List Rect) (bs : List SweptBox) (i : ℕ) (lines all : Lines) → length xs ≤ i → lines ++ lines_on_all (drop i xs) bs ≡ all → lines ≡ all
all_rectangles xs bs i lines all past so_far =
    let none : drop i xs ≡ [] = drop_of_length-le xs past in
    sym (append-nil lines) ∙ (rw none at so_far)

pub first_at_most : (t h : ℕ) → t ≤ ord_max nat_cmp t h
first_at_most t h = grind (arith, nat_tests)

pub second_at_most : (t h : ℕ) → h ≤ ord_max nat_cmp t h
second_at_most t h = grind (arith, nat_tests)

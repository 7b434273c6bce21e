-- Covering, by unit squares and by strips.
use Rattle.std.proofs.Common.{◌≡◌, ℕ, ◌<◌, List, Bool, false, true, get_or, ℤ, pos, negsuc, ◌+ℤ◌, ◌≤ℤ◌, ◌<ℤ◌, arith, refl, sym, ◌∙◌, ap, ⊎_elim}
use Rattle.std.specs.Prelude.{All, ◌⊎◌, ◌&&◌}
use Rattle.std.specs.Int.{int_gap}
use Rattle.std.specs.List.{list_any, list_all, range_with_len}
use Rattle.std.proofs.lemmas.Int.{ints}
use Rattle.std.proofs.lemmas.List.Folds.{Any-from_list_any, list_any-from_Any, list_all-map}
use Rattle.std.proofs.lemmas.List.Sums.{AllPass-from_list_all, list_all-from_AllPass}
use Rattle.std.proofs.lemmas.List.FromFn.{length-range_with_len, get_or-range_with_len}
use Rattle.design_model.specs.Geometry.{Rectangle}
use Rattle.place_rules.specs.Covering.{HasSquare, has_square, Covered, integers, is_covered}

-- the whole numbers from a up to b
gap_up : (a b : ℤ) → a ≤ℤ b → a +ℤ pos (int_gap a b) ≡ b
gap_up (pos a) (pos b) h = omega (arith, ints)
gap_up (pos a) (negsuc b) h = omega (arith, ints)
gap_up (negsuc a) (pos b) h = omega (arith, ints)
gap_up (negsuc a) (negsuc b) h = omega (arith, ints)

gap_within : (a b : ℤ) (k : ℕ) → k < int_gap a b → (a +ℤ pos k) <ℤ b
gap_within (pos a) (pos b) k h = omega (arith, ints)
gap_within (pos a) (negsuc b) k h = omega (arith, ints)
gap_within (negsuc a) (pos b) k h = omega (arith, ints)
gap_within (negsuc a) (negsuc b) k h = omega (arith, ints)

gap_below : (a x b : ℤ) → a ≤ℤ x → x <ℤ b → int_gap a x < int_gap a b
gap_below a x b h k =
    let up : a +ℤ pos (int_gap a x) ≡ x = gap_up a x h in
    let all : a +ℤ pos (int_gap a b) ≡ b = gap_up a b (omega (arith, ints)) in
    omega (arith, ints)

gap_none : (a b : ℤ) → b ≤ℤ a → int_gap a b ≡ 0
gap_none (pos a) (pos b) h = omega (arith, ints)
gap_none (pos a) (negsuc b) h = refl
gap_none (negsuc a) (pos b) h = omega (arith, ints)
gap_none (negsuc a) (negsuc b) h = omega (arith, ints)

at_or_past : (a b : ℤ) → (a ≤ℤ b) ⊎ (b ≤ℤ a)
at_or_past a b = grind (arith, ints)

-- a gap is smaller from further up
pub gap_shrinks : (a x b : ℤ) → a <ℤ x → a <ℤ b → int_gap x b < int_gap a b
gap_shrinks a x b h k =
    let all : a +ℤ pos (int_gap a b) ≡ b = gap_up a b (omega (arith, ints)) in
    ⊎_elim
    (λ (low : x ≤ℤ b). let left : x +ℤ pos (int_gap x b) ≡ b = gap_up x b low in omega (arith, ints))
    (λ (past : b ≤ℤ x). let none : int_gap x b ≡ 0 = gap_none x b past in omega (arith, ints))
    (at_or_past x b)

all_integers : (p : ℤ → Bool) (a b : ℤ) → list_all p (integers a b) ≡ true → (x : ℤ) → a ≤ℤ x → x <ℤ b → p x ≡ true
all_integers p a b h x low high =
    let n : ℕ = int_gap a b in
    let k : ℕ = int_gap a x in
    let below : k < n = gap_below a x b low high in
    let passes : All (λ i. p (a +ℤ pos i) ≡ true) (range_with_len 0 n) =
    AllPass-from_list_all (λ i. p (a +ℤ pos i)) (range_with_len 0 n) (sym (list_all-map p (λ i. a +ℤ pos i) (range_with_len 0 n)) ∙ h) in
    let at : p (a +ℤ pos (get_or (range_with_len 0 n) k 0)) ≡ true = passes k 0 (rw (length-range_with_len 0 n) below) in
    let is : get_or (range_with_len 0 n) k 0 ≡ k = get_or-range_with_len 0 n k 0 below ∙ omega arith in
    ap p (sym (gap_up a x low)) ∙ ap (λ i. p (a +ℤ pos i)) (sym is) ∙ at

all_integers_from : (p : ℤ → Bool) (a b : ℤ) → ((x : ℤ) → a ≤ℤ x → x <ℤ b → p x ≡ true) → list_all p (integers a b) ≡ true
all_integers_from p a b h =
    let n : ℕ = int_gap a b in
    let at : (i : ℕ) → i < n → p (a +ℤ pos i) ≡ true = λ i below. h (a +ℤ pos i) (omega (arith, ints)) (gap_within a b i below) in
    list_all-map p (λ i. a +ℤ pos i) (range_with_len 0 n)
    ∙ list_all-from_AllPass (λ i. p (a +ℤ pos i)) (range_with_len 0 n) (λ k d below.
    let inside : k < n = rw (length-range_with_len 0 n) at below in
    ap (λ i. p (a +ℤ pos i)) (get_or-range_with_len 0 n k d inside ∙ omega arith) ∙ at k inside)

-- a test and what it says
pub has_square_says : (x y : ℤ) (r : Rectangle) → has_square x y r ≡ true → HasSquare r x y
has_square_says x y r h = record { left = grind (arith, ints); right = grind (arith, ints); below = grind (arith, ints); above = grind (arith, ints) }

pub has_square_from : (x y : ℤ) (r : Rectangle) → HasSquare r x y → has_square x y r ≡ true
has_square_from x y r h =
    let left : r.x1 ≤ℤ x = h.left in
    let right : x <ℤ r.x2 = h.right in
    let below : r.y1 ≤ℤ y = h.below in
    let above : y <ℤ r.y2 = h.above in
    grind (arith, ints)

pub covered_says : (box : Rectangle) (list : List Rectangle) → is_covered box list ≡ true → Covered box list
unfolding is_covered
covered_says box list h x y square =
    let column = all_integers (λ x. list_all (λ y. list_any (has_square x y) list) (integers box.y1 box.y2)) box.x1 box.x2 h x square.left square.right in
    let any = all_integers (λ y. list_any (has_square x y) list) box.y1 box.y2 column y square.below square.above in
    let found = Any-from_list_any (has_square x y) list any in
    (found.1, (found.0, found.2, found.3), has_square_says x y found.1 found.4)

pub covered_from : (box : Rectangle) (list : List Rectangle) → Covered box list → is_covered box list ≡ true
unfolding is_covered
covered_from box list covered =
    all_integers_from (λ x. list_all (λ y. list_any (has_square x y) list) (integers box.y1 box.y2)) box.x1 box.x2 (λ x left right.
    all_integers_from (λ y. list_any (has_square x y) list) box.y1 box.y2 (λ y below above.
    let found = covered x y (record { left = left; right = right; below = below; above = above }) in
    list_any-from_Any (has_square x y) list (found.1.0, found.0, found.1.1, found.1.2, has_square_from x y found.0 found.2)))

-- the parts of a test
pub after_true : (a b r : Bool) → true ≡ a → r ≡ b → r ≡ (a && b)
after_true true b r h k = k
after_true false b r h k = cc

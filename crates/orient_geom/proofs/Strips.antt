-- What the loops of `covered` keep: how far a strip is covered to the right, and a box upward.
use Rattle.std.proofs.Common.{◌≡◌, suc, List, [], ◌∷◌, map, Bool, false, true, cond, Option, Some, None, ℤ, ◌≤ℤ◌, ◌<ℤ◌, Bor, arith, refl, sym, ap, subst, ⊎_elim}
use Rattle.std.specs.Prelude.{Contains, find, ◌⊎◌, MatchOption, option_copied}
use Rattle.std.specs.Int.{int_min}
use Rattle.std.specs.List.{list_any}
use Rattle.std.proofs.lemmas.Bool.{false_from_ne_true}
use Rattle.std.proofs.lemmas.Int.{ints, clamps}
use Rattle.std.proofs.lemmas.List.Folds.{list_any-from_Any}
use Rattle.design_model.specs.declared.geometry.Rect.{Rect}
use Rattle.design_model.specs.Geometry.{Rectangle}
use Rattle.design_model.specs.Views.{rectangle_of}
use Rattle.place_rules.specs.Covering.{HasSquare, has_square, Covered, is_covered}
use Rattle.orient_geom.specs.Strips.{HasSquareOf, NoneHasSquare, strip, IsCoveredTo}
use Rattle.orient_geom.proofs.Squares.{covered_says, covered_from, has_square_from, has_square_says}

-- the strip from y up to a top, which lies in the box, is covered from the box's left edge up to x
pub record IsCoveredUpTo (box : Rectangle) (list : List Rectangle) (x y top : ℤ) : Type 0 where
  pub from : box.x1 ≤ℤ x
  pub above : y <ℤ top
  pub within : top ≤ℤ box.y2
  pub covered : Covered (record { x1 = box.x1; y1 = y; x2 = x; y2 = top }) list

-- the box is covered below y
pub record IsCoveredBelow (box : Rectangle) (list : List Rectangle) (y : ℤ) : Type 0 where
  pub from : box.y1 ≤ℤ y
  pub within : y ≤ℤ box.y2
  pub covered : Covered (strip box box.y1 y) list

-- what a search through a list found, of the values that a function gives of its items
found_at : {X Y : Type 0} (f : X → Y) (p : Y → Bool) (x y : X) (ys : List X) (b : Bool) → p (f y) ≡ b → cond b (Some y) (find (λ z. p (f z)) ys) ≡ Some x
    → (find (λ z. p (f z)) ys ≡ Some x → Contains (map f ys) (f x) × (p (f x) ≡ true)) → Contains (map f (y ∷ ys)) (f x) × (p (f x) ≡ true)
found_at f p x y ys true is h later =
    let same : y ≡ x = cc in
    ((0, omega arith, ap f same), subst (λ z. p (f z) ≡ true) same is)
found_at f p x y ys false is h later =
    let found = later h in
    ((suc found.0.0, omega (arith, found.0.1), found.0.2), found.1)

pub found : {X Y : Type 0} (f : X → Y) (p : Y → Bool) (xs : List X) (x : X) → find (λ z. p (f z)) xs ≡ Some x → Contains (map f xs) (f x) × (p (f x) ≡ true)
found f p [] x h = cc
found f p (y ∷ ys) x h = found_at f p x y ys (p (f y)) refl h (found f p ys x)

found_none_at : {X Y : Type 0} (f : X → Y) (p : Y → Bool) (y : X) (ys : List X) (b : Bool) → p (f y) ≡ b → cond b (Some y) (find (λ z. p (f z)) ys) ≡ None
    → (find (λ z. p (f z)) ys ≡ None → list_any p (map f ys) ≡ false) → list_any p (map f (y ∷ ys)) ≡ false
found_none_at f p y ys true is h later = cc
found_none_at f p y ys false is h later = rw is (later h)

pub found_none : {X Y : Type 0} (f : X → Y) (p : Y → Bool) (xs : List X) → find (λ z. p (f z)) xs ≡ None → list_any p (map f xs) ≡ false
found_none f p [] h = refl
found_none f p (y ∷ ys) h = found_none_at f p y ys (p (f y)) refl h (found_none f p ys)

-- what the search for a rectangle with a square found
pub square_found : (rects : List Rect) (x y : ℤ) (result : Option (Bor Rect)) → option_copied result ≡ find (λ r. has_square x y (rectangle_of r)) rects
    → MatchOption result (NoneHasSquare (map rectangle_of rects) x y) (λ r. HasSquareOf (map rectangle_of rects) x y (rectangle_of r.now))
square_found rects x y None h = found_none rectangle_of (has_square x y) rects (sym h)
square_found rects x y (Some r) h =
    let parts = found rectangle_of (has_square x y) rects r.now (sym h) in
    record { in_list = parts.0; square = has_square_says x y (rectangle_of r.now) parts.1 }

-- a square of the longer strip lies in the shorter one or right of it
left_or_right : (i x : ℤ) → (i <ℤ x) ⊎ (x ≤ℤ i)
left_or_right i x = grind (arith, ints)

pub strip_more : (box : Rectangle) (list : List Rectangle) (x y top : ℤ) (r : Rectangle) → IsCoveredUpTo box list x y top → HasSquareOf list x y r → IsCoveredUpTo box list r.x2 y (int_min top r.y2)
strip_more box list x y top r before has =
    let square = has.square in
    let left : r.x1 ≤ℤ x = square.left in
    let right : x <ℤ r.x2 = square.right in
    let below : r.y1 ≤ℤ y = square.below in
    let above : y <ℤ r.y2 = square.above in
    let from : box.x1 ≤ℤ x = before.from in
    let up : y <ℤ top = before.above in
    let within : top ≤ℤ box.y2 = before.within in
    record {
      from = omega (arith, ints);
      above = omega (arith, ints, clamps);
      within = omega (arith, ints, clamps);
      covered = λ i j at.
          let at_left : box.x1 ≤ℤ i = at.left in
          let at_right : i <ℤ r.x2 = at.right in
          let at_below : y ≤ℤ j = at.below in
          let at_above : j <ℤ int_min top r.y2 = at.above in
          ⊎_elim
          (λ (old : i <ℤ x). before.covered i j (record { left = at_left; right = old; below = at_below; above = omega (arith, ints, clamps) }))
          (λ (new : x ≤ℤ i). (r, has.in_list, record { left = omega (arith, ints); right = at_right; below = omega (arith, ints); above = omega (arith, ints, clamps) }))
          (left_or_right i x);
    }

pub strip_end : (box : Rectangle) (list : List Rectangle) (x y top : ℤ) → IsCoveredUpTo box list x y top → box.x2 ≤ℤ x → IsCoveredTo box list y top
strip_end box list x y top up end = record {
  above = up.above;
  within = up.within;
  covered = λ i j at.
      let at_right : i <ℤ box.x2 = at.right in
      up.covered i j (record { left = at.left; right = omega (arith, ints); below = at.below; above = at.above });
}

pub strip_none : (box : Rectangle) (list : List Rectangle) (x y : ℤ) → NoneHasSquare list x y → HasSquare box x y → is_covered box list ≡ false
strip_none box list x y none square = false_from_ne_true (is_covered box list) (λ is.
    let held = covered_says box list is x y square in
    let any : list_any (has_square x y) list ≡ true = list_any-from_Any (has_square x y) list (held.1.0, held.0, held.1.1, held.1.2, has_square_from x y held.0 held.2) in
    cc)

pub box_more : (box : Rectangle) (list : List Rectangle) (y top : ℤ) → IsCoveredBelow box list y → IsCoveredTo box list y top → IsCoveredBelow box list top
box_more box list y top before to =
    let from : box.y1 ≤ℤ y = before.from in
    let up : y <ℤ top = to.above in
    record {
      from = omega (arith, ints);
      within = to.within;
      covered = λ i j at.
          ⊎_elim
          (λ (old : j <ℤ y). before.covered i j (record { left = at.left; right = at.right; below = at.below; above = old }))
          (λ (new : y ≤ℤ j). to.covered i j (record { left = at.left; right = at.right; below = new; above = at.above }))
          (left_or_right j y);
    }

pub box_end : (box : Rectangle) (list : List Rectangle) (y : ℤ) → IsCoveredBelow box list y → box.y2 ≤ℤ y → is_covered box list ≡ true
box_end box list y below end = covered_from box list (λ i j at.
    let at_above : j <ℤ box.y2 = at.above in
    below.covered i j (record { left = at.left; right = at.right; below = at.below; above = omega (arith, ints) }))

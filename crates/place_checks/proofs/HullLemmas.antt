-- A box apart from the hull of rectangles overlaps none of them.
use Rattle.std.proofs.Common.{◌≡◌, ◌<◌, ◌+◌, ℕ, ◌≤ℤ◌, ℤ, true, false, List, [], ◌∷◌, ◌++◌, length, drop, drop-cons, get_or, add-one, arith, refl, ⊎_elim}
use Rattle.std.specs.Int.{int_min, int_max}
use Rattle.std.specs.Int.Signed.{le_z}
use Rattle.std.specs.List.{list_any}
use Rattle.std.proofs.lemmas.Bool.{cases_Bool as cases}
use Rattle.std.proofs.lemmas.Int.{ints, clamps}
use Rattle.design_model.specs.Geometry.{Rectangle, overlap}
use Rattle.design_rules.specs.Boxes.{Boxed}
use Rattle.design_rules.specs.Surroundings.{Fence}
use Rattle.design_rules.specs.PlaceLines.{is_one_of}
use Rattle.place_checks.specs.FenceLines.{fence_lines_by, fence_lines_in}
use Rattle.place_checks.specs.Hulls.{hull_of, is_apart, joined, joined_all}
use Rattle.place_checks.proofs.SkipLemmas.{apart_above, apart_below, apart_left, apart_right}
use Rattle.place_checks.proofs.SweepLemmas.{up_to_of}

pub joined_is : (a b : Rectangle) (x1 y1 x2 y2 : ℤ) → x1 ≡ int_min a.x1 b.x1 → y1 ≡ int_min a.y1 b.y1 → x2 ≡ int_max a.x2 b.x2 → y2 ≡ int_max a.y2 b.y2
    → record { x1 = x1; y1 = y1; x2 = x2; y2 = y2 } ≡ joined a b
joined_is a b x1 y1 x2 y2 e f g h = rw (e, f, g, h) refl

-- one rectangle lies within another
record IsInside (outer inner : Rectangle) : Type 0 where
  left : outer.x1 ≤ℤ inner.x1
  below : outer.y1 ≤ℤ inner.y1
  right : inner.x2 ≤ℤ outer.x2
  above : inner.y2 ≤ℤ outer.y2

inside_itself : (r : Rectangle) → IsInside r r
inside_itself r = record { left = omega (arith, ints); below = omega (arith, ints); right = omega (arith, ints); above = omega (arith, ints) }

inside_through : (a b c : Rectangle) → IsInside a b → IsInside b c → IsInside a c
inside_through a b c h k =
    let l = h.left in let m = k.left in let n = h.below in let o = k.below in
    let p = h.right in let q = k.right in let r = h.above in let s = k.above in
    record { left = omega (arith, ints); below = omega (arith, ints); right = omega (arith, ints); above = omega (arith, ints) }

first_inside : (a b : Rectangle) → IsInside (joined a b) a
first_inside a b = record { left = omega (arith, ints, clamps); below = omega (arith, ints, clamps); right = omega (arith, ints, clamps); above = omega (arith, ints, clamps) }

second_inside : (a b : Rectangle) → IsInside (joined a b) b
second_inside a b = record { left = omega (arith, ints, clamps); below = omega (arith, ints, clamps); right = omega (arith, ints, clamps); above = omega (arith, ints, clamps) }

start_inside : (r : Rectangle) (rest : List Rectangle) → IsInside (joined_all r rest) r
start_inside r [] = inside_itself r
start_inside r (next ∷ rest) = inside_through (joined_all (joined r next) rest) (joined r next) r (start_inside (joined r next) rest) (first_inside r next)

-- what is apart from a rectangle overlaps none within it
none_within : (box outer inner : Rectangle) → IsInside outer inner → is_apart box outer ≡ true → overlap box inner ≡ false
none_within box outer inner h apart =
    let l = h.left in let b = h.below in let r = h.right in let a = h.above in
    ⊎_elim
    (λ (e : le_z box.x2 outer.x1 ≡ true). let at : box.x2 ≤ℤ outer.x1 = up_to_of _ _ e in apart_right box inner (omega (arith, ints)))
    (λ (e : le_z box.x2 outer.x1 ≡ false). ⊎_elim
    (λ (f : le_z outer.x2 box.x1 ≡ true). let at : outer.x2 ≤ℤ box.x1 = up_to_of _ _ f in apart_left inner box (omega (arith, ints)))
    (λ (f : le_z outer.x2 box.x1 ≡ false). ⊎_elim
    (λ (g : le_z box.y2 outer.y1 ≡ true). let at : box.y2 ≤ℤ outer.y1 = up_to_of _ _ g in apart_above box inner (omega (arith, ints)))
    (λ (g : le_z box.y2 outer.y1 ≡ false). let k : le_z outer.y2 box.y1 ≡ true = rw (e, f, g) at apart in
    let at : outer.y2 ≤ℤ box.y1 = up_to_of _ _ k in apart_below inner box (omega (arith, ints)))
    (cases (le_z box.y2 outer.y1)))
    (cases (le_z outer.x2 box.x1)))
    (cases (le_z box.x2 outer.x1))

none_of : (box : Rectangle) (r : Rectangle) (rest : List Rectangle) → is_apart box (joined_all r rest) ≡ true → list_any (overlap box) rest ≡ false
none_of box r [] apart = refl
none_of box r (next ∷ rest) apart =
    let whole = joined_all (joined r next) rest in
    let inside = inside_through whole (joined r next) next (start_inside (joined r next) rest) (second_inside r next) in
    rw (none_within box whole next inside apart, none_of box (joined r next) rest apart) refl

pub none_overlaps : (box : Rectangle) (all : List Rectangle) → is_apart box (hull_of all) ≡ true → list_any (overlap box) all ≡ false
none_overlaps box [] apart = refl
none_overlaps box (first ∷ rest) apart = rw (none_within box (joined_all first rest) first (start_inside first rest) apart, none_of box first rest apart) refl

-- the element that a loop is at, and those behind it
pub drop_from : {X : Type 0} (xs : List X) (i : ℕ) (x : X) → i < length xs → x ≡ get_or xs i x → drop i xs ≡ x ∷ drop (i + 1) xs
drop_from xs i x below is = rw (add-one, drop-cons xs i x, ← is) refl

no_line : (c : Boxed) (f : Fence) (hull : Rectangle) → hull ≡ hull_of f.rectangles → is_apart c.box hull ≡ true → fence_lines_by false c f ≡ []
no_line c f hull is apart = rw (none_overlaps c.box f.rectangles (rw is at apart)) refl

-- a fence that a component isn't assigned to, and is apart from, is passed over
pub passed_over : (regions : List (List ℕ)) (c : Boxed) (f : Fence) (left rest : List Fence) (hull : Rectangle) (old all : List (List ℕ)) → left ≡ f ∷ rest
    → hull ≡ hull_of f.rectangles → is_apart c.box hull ≡ true → is_one_of regions f.name ≡ false
    → old ++ fence_lines_in regions c left ≡ all → old ++ fence_lines_in regions c rest ≡ all
passed_over regions c f left rest hull old all split is apart other so_far = rw (other, no_line c f hull is apart) at (rw split at so_far)

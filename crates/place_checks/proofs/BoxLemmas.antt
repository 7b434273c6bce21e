-- Boxes of macros whose corners may be out of order.
use Rattle.std.proofs.Common.{◌≡◌, false, ℕ, ℤ, pos, neg_ℤ, ◌+ℤ◌, ◌-ℤ◌, nat_abs, ◌≤◌, List, Option, Some, None, arith, refl, ap, ap₂, ◌∙◌}
use Rattle.std.specs.Int.{int_min, int_max}
use Rattle.std.proofs.lemmas.Int.{ints, clamps}
use Rattle.design_model.specs.declared.geometry.Point.{Point}
use Rattle.design_model.specs.declared.geometry.Orient.{Orient}
use Rattle.design_model.specs.declared.geometry.Orient.TheVariants.{N, W, S, E, FN, FS, FW, FE}
use Rattle.design_model.specs.Geometry.{Rectangle, turned, moved, placed_box, IsNear, IsNearRectangle}
use Rattle.def_grammar.specs.Components.{Component, region_of_clause}
use Rattle.def_grammar.specs.Numbers.{int_of}
use Rattle.def_grammar.specs.Parts.{Coordinates}
use Rattle.lef_grammar.specs.Definitions.{Distances, Macro}
use Rattle.form_meanings.specs.Firsts.{first_of}
use Rattle.lef_grammar.specs.Measures.{point_or_0}
use Rattle.cell_library.specs.Numbers.{IsWithin}
use Rattle.lef_grammar.specs.Measures.{boundary_of}
use Rattle.design_rules.specs.Boxes.{Boxed, box_at, is_cover}
use Rattle.place_checks.specs.Corners.{corner, in_order}

-- the ends of an interval, ordered twice
low : (a b : ℤ) → int_min (int_min a b) (int_max a b) ≡ int_min a b
low a b = omega (arith, ints, clamps)

high : (a b : ℤ) → int_max (int_min a b) (int_max a b) ≡ int_max a b
high a b = omega (arith, ints, clamps)

-- the same, about zero
low_neg : (a b : ℤ) → int_min (neg_ℤ (int_min a b)) (neg_ℤ (int_max a b)) ≡ int_min (neg_ℤ a) (neg_ℤ b)
low_neg a b = omega (arith, ints, clamps)

high_neg : (a b : ℤ) → int_max (neg_ℤ (int_min a b)) (neg_ℤ (int_max a b)) ≡ int_max (neg_ℤ a) (neg_ℤ b)
high_neg a b = omega (arith, ints, clamps)

turned_in_order : (o : Orient) (r : Rectangle) → turned o (in_order r) ≡ turned o r
turned_in_order N r = rw (low r.x1 r.x2, high r.x1 r.x2, low r.y1 r.y2, high r.y1 r.y2) refl
turned_in_order W r = rw (low r.x1 r.x2, high r.x1 r.x2, low_neg r.y1 r.y2, high_neg r.y1 r.y2) refl
turned_in_order S r = rw (low_neg r.x1 r.x2, high_neg r.x1 r.x2, low_neg r.y1 r.y2, high_neg r.y1 r.y2) refl
turned_in_order E r = rw (low_neg r.x1 r.x2, high_neg r.x1 r.x2, low r.y1 r.y2, high r.y1 r.y2) refl
turned_in_order FN r = rw (low_neg r.x1 r.x2, high_neg r.x1 r.x2, low r.y1 r.y2, high r.y1 r.y2) refl
turned_in_order FS r = rw (low r.x1 r.x2, high r.x1 r.x2, low_neg r.y1 r.y2, high_neg r.y1 r.y2) refl
turned_in_order FW r = rw (low r.x1 r.x2, high r.x1 r.x2, low r.y1 r.y2, high r.y1 r.y2) refl
turned_in_order FE r = rw (low_neg r.x1 r.x2, high_neg r.x1 r.x2, low_neg r.y1 r.y2, high_neg r.y1 r.y2) refl

-- Where a box goes doesn't depend on which corners its boundary is given by.
pub placed_in_order : (o : Orient) (r : Rectangle) (at : Point) → placed_box o (in_order r) at ≡ placed_box o r at
placed_in_order o r at = ap (λ (t : Rectangle). moved (at.x -ℤ t.x1) (at.y -ℤ t.y1) t) (turned_in_order o r)

-- a box whose boundary had its corners put in order
pub box_in_order : (o : Orient) (r boundary box : Rectangle) (at place : Point) → box ≡ placed_box o boundary place → boundary ≡ in_order r → place ≡ at → box ≡ placed_box o r at
box_in_order o r boundary box at place is ordered here = rw (is, ordered, here) (placed_in_order o r at)

pub in_order_is : (w h x1 y1 x2 y2 : ℤ) → x1 ≡ int_min (pos 0) w → y1 ≡ int_min (pos 0) h → x2 ≡ int_max (pos 0) w → y2 ≡ int_max (pos 0) h
    → record { x1 = x1; y1 = y1; x2 = x2; y2 = y2 } ≡ in_order (corner w h)
in_order_is w h x1 y1 x2 y2 a b c d = rw (a, b, c, d) refl

small_low : (w x : ℤ) → nat_abs w ≤ 100000000000 → x ≡ int_min (pos 0) w → nat_abs x ≤ 100000000000
small_low w x h e = rw e (omega (arith, ints, clamps))

small_high : (w x : ℤ) → nat_abs w ≤ 100000000000 → x ≡ int_max (pos 0) w → nat_abs x ≤ 100000000000
small_high w x h e = rw e (omega (arith, ints, clamps))

pub small_corner : (w h x1 y1 x2 y2 : ℤ) → nat_abs w ≤ 100000000000 → nat_abs h ≤ 100000000000 → x1 ≡ int_min (pos 0) w → y1 ≡ int_min (pos 0) h
    → x2 ≡ int_max (pos 0) w → y2 ≡ int_max (pos 0) h → IsWithin 100000000000 (record { x1 = x1; y1 = y1; x2 = x2; y2 = y2 })
small_corner w h x1 y1 x2 y2 narrow low a b c d = record { x1 = small_low w x1 narrow a; y1 = small_low h y1 low b; x2 = small_high w x2 narrow c; y2 = small_high h y2 low d }

module _ {n : ℕ} (a b : ℤ) (h : nat_abs a ≤ n) (k : nat_abs b ≤ n) where
  least : nat_abs (int_min a b) ≤ n
  least = omega (arith, ints, clamps)

  most : nat_abs (int_max a b) ≤ n
  most = omega (arith, ints, clamps)

  least_neg : nat_abs (int_min (neg_ℤ a) (neg_ℤ b)) ≤ n
  least_neg = omega (arith, ints, clamps)

  most_neg : nat_abs (int_max (neg_ℤ a) (neg_ℤ b)) ≤ n
  most_neg = omega (arith, ints, clamps)

-- a small rectangle is small when it is turned
turned_small : (o : Orient) (n : ℕ) (r : Rectangle) → IsWithin n r → IsWithin n (turned o r)
turned_small N n r s = record { x1 = least r.x1 r.x2 s.x1 s.x2; y1 = least r.y1 r.y2 s.y1 s.y2; x2 = most r.x1 r.x2 s.x1 s.x2; y2 = most r.y1 r.y2 s.y1 s.y2 }
turned_small W n r s = record { x1 = least_neg r.y1 r.y2 s.y1 s.y2; y1 = least r.x1 r.x2 s.x1 s.x2; x2 = most_neg r.y1 r.y2 s.y1 s.y2; y2 = most r.x1 r.x2 s.x1 s.x2 }
turned_small S n r s = record { x1 = least_neg r.x1 r.x2 s.x1 s.x2; y1 = least_neg r.y1 r.y2 s.y1 s.y2; x2 = most_neg r.x1 r.x2 s.x1 s.x2; y2 = most_neg r.y1 r.y2 s.y1 s.y2 }
turned_small E n r s = record { x1 = least r.y1 r.y2 s.y1 s.y2; y1 = least_neg r.x1 r.x2 s.x1 s.x2; x2 = most r.y1 r.y2 s.y1 s.y2; y2 = most_neg r.x1 r.x2 s.x1 s.x2 }
turned_small FN n r s = record { x1 = least_neg r.x1 r.x2 s.x1 s.x2; y1 = least r.y1 r.y2 s.y1 s.y2; x2 = most_neg r.x1 r.x2 s.x1 s.x2; y2 = most r.y1 r.y2 s.y1 s.y2 }
turned_small FS n r s = record { x1 = least r.x1 r.x2 s.x1 s.x2; y1 = least_neg r.y1 r.y2 s.y1 s.y2; x2 = most r.x1 r.x2 s.x1 s.x2; y2 = most_neg r.y1 r.y2 s.y1 s.y2 }
turned_small FW n r s = record { x1 = least r.y1 r.y2 s.y1 s.y2; y1 = least r.x1 r.x2 s.x1 s.x2; x2 = most r.y1 r.y2 s.y1 s.y2; y2 = most r.x1 r.x2 s.x1 s.x2 }
turned_small FE n r s = record { x1 = least_neg r.y1 r.y2 s.y1 s.y2; y1 = least_neg r.x1 r.x2 s.x1 s.x2; x2 = most_neg r.y1 r.y2 s.y1 s.y2; y2 = most_neg r.x1 r.x2 s.x1 s.x2 }

near_moved : (a t x : ℤ) → nat_abs a ≤ 100000000000 → nat_abs t ≤ 100000000000 → nat_abs x ≤ 2147483648 → IsNear (a +ℤ (x -ℤ t))
near_moved a t x h k m = record { low = omega (arith, ints); high = omega (arith, ints) }

-- the box of a macro at a point of a text is near
pub near_placed : (o : Orient) (r : Rectangle) (at : Point) → IsWithin 100000000000 r → nat_abs at.x ≤ 2147483648 → nat_abs at.y ≤ 2147483648 → IsNearRectangle (placed_box o r at)
near_placed o r at s across up =
    let t = turned_small o 100000000000 r s in
    record {
      x1 = near_moved _ _ at.x t.x1 t.x1 across;
      y1 = near_moved _ _ at.y t.y1 t.y1 up;
      x2 = near_moved _ _ at.x t.x2 t.x1 across;
      y2 = near_moved _ _ at.y t.y2 t.y1 up;
    }

-- a boundary by its width and height
corner_is : (u : ℕ) (size : Option Distances) → corner (point_or_0 u size).x (point_or_0 u size).y ≡ boundary_of u size
corner_is u None = refl
corner_is u (Some d) = refl

pub boundary_by : (u : ℕ) (size : Option Distances) (p : Point) (w h : ℤ) (r : Rectangle) → p ≡ point_or_0 u size → w ≡ p.x → h ≡ p.y → r ≡ in_order (corner w h) → r ≡ in_order (boundary_of u size)
boundary_by u size p w h r is wide high made = made ∙ ap₂ (λ (x y : ℤ). in_order (corner x y)) wide high ∙ ap (λ (q : Point). in_order (corner q.x q.y)) is ∙ ap in_order (corner_is u size)

-- a component that takes part, by its parts
pub boxed_so : (u : ℕ) (c : Component) (at : Coordinates) (o : Orient) (m : Macro) (box : Rectangle) (class region : Option (List ℕ)) (sites : List (List ℕ)) → false ≡ is_cover m.class
    → box ≡ placed_box o (boundary_of u m.size) (record { x = int_of at.x; y = int_of at.y }) → class ≡ m.class → sites ≡ m.sites → region ≡ first_of region_of_clause c.clauses
    → ◌≡◌ {A = Option Boxed} (Some (record { name = c.name; box = box; orient = o; class = class; sites = sites; region = region })) (box_at u c at o m)
boxed_so u c at o m box class region sites shown is of_class of_sites of_region = rw (← shown, is, of_class, of_sites, of_region) refl

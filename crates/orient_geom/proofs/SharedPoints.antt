-- Rectangles that meet, by the points that they share.
use Rattle.std.proofs.Common.{◌≡◌, ℤ, ◌≤ℤ◌, arith, refl, cond, subst}
use Rattle.std.specs.Prelude.{Bool, true, false, ◌&&◌, Some, None}
use Rattle.std.specs.Int.{int_min, int_max}
use Rattle.std.specs.Int.Signed.{le_z}
use Rattle.std.proofs.lemmas.Int.{ints, clamps}
use Rattle.std.proofs.lemmas.Bool.{and_parts, and_from}
use Rattle.design_model.specs.Geometry.{Rectangle}
use Rattle.shape_rules.specs.Meeting.{meets, shared}
use Rattle.orient_geom.specs.Meeting.{HasPoint, IsOrdered, MeetingIsSymmetric, CommonIsSymmetric, CommonHasSharedPoints, NoneIsApart}

max_comm : (a b : ℤ) → int_max a b ≡ int_max b a
max_comm a b = omega (arith, ints, clamps)

min_comm : (a b : ℤ) → int_min a b ≡ int_min b a
min_comm a b = omega (arith, ints, clamps)

and_comm : (a b : Bool) → (a && b) ≡ (b && a)
and_comm true true = refl
and_comm true false = refl
and_comm false true = refl
and_comm false false = refl

pub meeting_is_symmetric : MeetingIsSymmetric
meeting_is_symmetric a b = rw (and_comm (le_z a.x1 b.x2) (le_z b.x1 a.x2), and_comm (le_z a.y1 b.y2) (le_z b.y1 a.y2)) refl

shared_comm : (a b : Rectangle) → shared a b ≡ shared b a
shared_comm a b = rw (max_comm a.x1 b.x1, min_comm a.x2 b.x2, max_comm a.y1 b.y1, min_comm a.y2 b.y2) refl

pub common_is_symmetric : CommonIsSymmetric
common_is_symmetric a b = rw (meeting_is_symmetric a b, shared_comm a b) refl

-- a test and what it says
pub at_most : (p q : ℤ) → le_z p q ≡ true → p ≤ℤ q
at_most p q h = grind (arith, ints)

test_of : (p q : ℤ) → p ≤ℤ q → le_z p q ≡ true
test_of p q h = grind (arith, ints)

-- rectangles meet, as four bounds
pub record AreMet (a b : Rectangle) : Type 0 where
  pub left : a.x1 ≤ℤ b.x2
  pub right : b.x1 ≤ℤ a.x2
  pub below : a.y1 ≤ℤ b.y2
  pub above : b.y1 ≤ℤ a.y2

pub bounds : (a b : Rectangle) → meets a b ≡ true → AreMet a b
bounds a b h =
    let parts = and_parts _ _ h in
    let across = and_parts _ _ parts.0 in
    let upward = and_parts _ _ parts.1 in
    record { left = at_most _ _ across.0; right = at_most _ _ across.1; below = at_most _ _ upward.0; above = at_most _ _ upward.1 }

pub met : (a b : Rectangle) → AreMet a b → meets a b ≡ true
met a b m = and_from _ _ (and_from _ _ (test_of _ _ m.left) (test_of _ _ m.right)) (and_from _ _ (test_of _ _ m.below) (test_of _ _ m.above))

-- the shared rectangle of two that meet has its corners in order
pub shared_in_order : (a b : Rectangle) → IsOrdered a → IsOrdered b → AreMet a b → IsOrdered (shared a b)
shared_in_order a b ao bo m =
    let ax = ao.wide in
    let ay = ao.high in
    let bx = bo.wide in
    let by = bo.high in
    let l = m.left in
    let r = m.right in
    let d = m.below in
    let u = m.above in
    record { wide = omega (arith, ints, clamps); high = omega (arith, ints, clamps) }

-- the points of the shared rectangle
pub in_both : (a b : Rectangle) (x y : ℤ) → HasPoint (shared a b) x y → HasPoint a x y × HasPoint b x y
in_both a b x y p =
    let l = p.left in
    let r = p.right in
    let d = p.below in
    let u = p.above in (
      record { left = omega (arith, ints, clamps); right = omega (arith, ints, clamps); below = omega (arith, ints, clamps); above = omega (arith, ints, clamps) },
      record { left = omega (arith, ints, clamps); right = omega (arith, ints, clamps); below = omega (arith, ints, clamps); above = omega (arith, ints, clamps) },
    )

pub in_shared : (a b : Rectangle) (x y : ℤ) → HasPoint a x y → HasPoint b x y → HasPoint (shared a b) x y
in_shared a b x y p q =
    let l = p.left in
    let r = p.right in
    let d = p.below in
    let u = p.above in
    let m = q.left in
    let s = q.right in
    let e = q.below in
    let v = q.above in
    record { left = omega (arith, ints, clamps); right = omega (arith, ints, clamps); below = omega (arith, ints, clamps); above = omega (arith, ints, clamps) }

-- a point in both makes them meet
met_by_point : (a b : Rectangle) (x y : ℤ) → HasPoint a x y → HasPoint b x y → AreMet a b
met_by_point a b x y p q =
    let l = p.left in
    let r = p.right in
    let d = p.below in
    let u = p.above in
    let m = q.left in
    let s = q.right in
    let e = q.below in
    let v = q.above in
    record { left = omega (arith, ints); right = omega (arith, ints); below = omega (arith, ints); above = omega (arith, ints) }

corner : (r : Rectangle) → IsOrdered r → HasPoint r r.x1 r.y1
corner r o =
    let w = o.wide in
    let h = o.high in
    record { left = omega (arith, ints); right = omega (arith, ints); below = omega (arith, ints); above = omega (arith, ints) }

pub common_has_shared_points : CommonHasSharedPoints
common_has_shared_points a b c =
    elim (meets a b) as (λ t. cond t (Some (shared a b)) None ≡ Some c → (x y : ℤ) → (HasPoint a x y × HasPoint b x y → HasPoint c x y) × (HasPoint c x y → HasPoint a x y × HasPoint b x y)) [
      | true ↦ λ e x y.
          let same : shared a b ≡ c = cc in
          subst (λ (r : Rectangle). (HasPoint a x y × HasPoint b x y → HasPoint r x y) × (HasPoint r x y → HasPoint a x y × HasPoint b x y)) same
          (λ both. in_shared a b x y both.0 both.1, λ p. in_both a b x y p)
      | false ↦ λ e x y. cc
    ]

pub none_is_apart : NoneIsApart
none_is_apart a b ao bo =
    elim (meets a b) as (λ t. meets a b ≡ t → (cond t (Some (shared a b)) None ≡ None → (x y : ℤ) → HasPoint a x y → ¬ HasPoint b x y) × (((x y : ℤ) → HasPoint a x y → ¬ HasPoint b x y) → cond t (Some (shared a b)) None ≡ None)) [
      | true ↦ λ h. (
        λ e. cc,
        λ apart.
            let both = in_both a b _ _ (corner (shared a b) (shared_in_order a b ao bo (bounds a b h))) in
            absurd (apart _ _ both.0 both.1),
      )
      | false ↦ λ h. (λ e x y p q. let t = met a b (met_by_point a b x y p q) in cc, λ apart. refl)
    ] refl

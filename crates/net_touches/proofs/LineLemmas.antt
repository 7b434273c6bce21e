-- The lines of two things: what they need, and what they say.
use Rattle.std.proofs.Common.{◌≡◌, ℕ, Bool, true, false, not, List, [], ◌∷◌, Some, None, refl, arith}
use Rattle.std.specs.Prelude.{◌&&◌, ◌==◌, int_lt, ℤ, ◌<ℤ◌}
use Rattle.std.specs.Int.{int_min, int_max}
use Rattle.std.specs.Str.{bytes_eq}
use Rattle.std.proofs.lemmas.Int.{ints, clamps}
use Rattle.std.proofs.lemmas.Bool.{and_parts}
use Rattle.design_model.specs.declared.diagnostic.DiagKind.TheVariants.{RouteBlock}
use Rattle.design_model.specs.Geometry.{Rectangle, overlap}
use Rattle.design_model.specs.Lines.{line_text}
use Rattle.shape_rules.specs.Meeting.{common, meets, shared}
use Rattle.orient_geom.proofs.SharedPoints.{met}
use Rattle.connection_rules.specs.NetLines.{Barrier, NetShape, corners_of, is_barred, routeblock_of, short_line, short_of}
use Rattle.net_touches.specs.Things.{Thing, barrier, box_of, layer_of, lines_of_two, shape_of_net}
use Rattle.net_touches.proofs.BoolLemmas.{split, second_fails, third_fails, both_fail}

below_of : (p q : ℤ) → int_lt p q ≡ true → p <ℤ q
below_of p q h = grind (arith, ints)

-- rectangles that share area share a point
pub overlap_meets : (a b : Rectangle) → overlap a b ≡ true → meets a b ≡ true
overlap_meets a b h =
    let parts = and_parts _ _ h in
    let across : int_max a.x1 b.x1 <ℤ int_min a.x2 b.x2 = below_of _ _ parts.0 in
    let upward : int_max a.y1 b.y1 <ℤ int_min a.y2 b.y2 = below_of _ _ parts.1 in
    met a b (record { left = omega (arith, ints, clamps); right = omega (arith, ints, clamps); below = omega (arith, ints, clamps); above = omega (arith, ints, clamps) })

pub apart_no_area : (a b : Rectangle) → meets a b ≡ false → overlap a b ≡ false
apart_no_area a b h = split (overlap a b) (λ t. absurd (let m = overlap_meets a b t in cc)) (λ f. f)

-- what two rectangles share
pub record Shares (a b c : Rectangle) : Type 0 where
  pub meet : meets a b ≡ true
  pub is : c ≡ shared a b

shares : (a b c : Rectangle) → common a b ≡ Some c → Shares a b c
shares a b c h =
    split (meets a b)
    (λ t. let e : Some (shared a b) ≡ Some c = rw t at h in record { meet = t; is = cc })
    (λ f. absurd (let e : None ≡ Some c = rw f at h in cc))

module _ (name_of : ℕ → List ℕ) where
  abbrev ShortOf : NetShape → NetShape → Rectangle → Type 0
  ShortOf a b r = short_of name_of a b ≡ short_line name_of a.net b.net a.shape.layer r ∷ []

  -- shapes of two nets on one layer that share this
  pub the_short : (a b : NetShape) (r : Rectangle) → (a.shape.layer == b.shape.layer) ≡ true → bytes_eq a.net b.net ≡ false → common a.shape.box b.shape.box ≡ Some r → ShortOf a b r
  the_short a b r same other h =
      let s = shares a.shape.box b.shape.box r h in
      rw (other, same, s.meet, s.is) refl

  abbrev Barred : NetShape → Barrier → Rectangle → Type 0
  Barred s b r = routeblock_of name_of s b ≡ line_text RouteBlock (s.net ∷ name_of b.layer ∷ []) (corners_of r) ∷ []

  pub no_routeblock : (s : NetShape) (b : Barrier) → is_barred name_of s b ≡ false → routeblock_of name_of s b ≡ []
  no_routeblock s b h = rw h refl

  pub the_routeblock : (s : NetShape) (b : Barrier) (r : Rectangle) → is_barred name_of s b ≡ true → common s.shape.box b.box ≡ Some r → Barred s b r
  the_routeblock s b r h c = rw (h, (shares s.shape.box b.box r c).is) refl

  pub barred_meets : (s : NetShape) (b : Barrier) → is_barred name_of s b ≡ true → meets s.shape.box b.box ≡ true
  barred_meets s b h = overlap_meets s.shape.box b.box (and_parts _ _ (and_parts _ _ h).0).1

  pub barred_shares : (s : NetShape) (b : Barrier) → is_barred name_of s b ≡ true → ¬ (None ≡ common s.shape.box b.box)
  barred_shares s b h e = let m = barred_meets s b h in let d : None ≡ Some (shared s.shape.box b.box) = rw m at e in absurd (cc)

  -- things that share no point have no lines,
  pub apart_none : (x y : Thing) → meets (box_of x) (box_of y) ≡ false → lines_of_two name_of x y ≡ []
  apart_none (shape_of_net a) (shape_of_net b) h =
      let n : Bool = not (bytes_eq a.net b.net) in
      let l : Bool = a.shape.layer == b.shape.layer in
      rw (h, second_fails l, second_fails n) refl
  apart_none (shape_of_net s) (barrier b) h =
      rw (apart_no_area s.shape.box b.box h, third_fails s.is_drawn (s.shape.layer == b.layer) (not (s.is_power && b.spares_power))) refl
  apart_none (barrier b) y h = refl

  -- nor have things of two layers
  pub layers_none : (x y : Thing) → (layer_of x == layer_of y) ≡ false → lines_of_two name_of x y ≡ []
  layers_none (shape_of_net a) (shape_of_net b) h = rw (h, second_fails (not (bytes_eq a.net b.net))) refl
  layers_none (shape_of_net s) (barrier b) h =
      rw (h, both_fail s.is_drawn false (overlap s.shape.box b.box) (not (s.is_power && b.spares_power))) refl
  layers_none (barrier b) y h = refl

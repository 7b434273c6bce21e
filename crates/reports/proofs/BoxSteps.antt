-- Boxes that grow by one rectangle after the other.
use Rattle.std.proofs.Common.{◌≡◌, ℕ, ◌+◌, ◌<◌, ◌≤◌, List, [], ◌∷◌, ◌++◌, Option, Some, None, get_or, length, map, take, refl, sym, ap, ◌∙◌, ℤ}
use Rattle.std.specs.Int.{int_min, int_max}
use Rattle.std.specs.Option.{option_map}
use Rattle.std.proofs.lemmas.List.{map-append, take_all, take_more}
use Rattle.design_model.specs.Geometry.{Rectangle}
use Rattle.measure_rules.specs.NetBoxes.{around, around_all, box_round}

pub around_is : (a b : Rectangle) (x1 y1 x2 y2 : ℤ) → x1 ≡ int_min a.x1 b.x1 → y1 ≡ int_min a.y1 b.y1 → x2 ≡ int_max a.x2 b.x2 → y2 ≡ int_max a.y2 b.y2
    → record { x1 = x1; y1 = y1; x2 = x2; y2 = y2 } ≡ around a b
around_is a b x1 y1 x2 y2 e f g h = rw (e, f, g, h) refl

module _ {X R : Type 0} (box_of : X → Rectangle) (rectangle_of : R → Rectangle) where
  -- the box round one more
  pub box_grown : ((rs : List Rectangle) (r : Rectangle) → box_round (rs ++ r ∷ []) ≡ Some (around_all r (box_round rs))) → (xs : List X) (i : ℕ) (x : X) (old : Option R) (new : R) → i < length xs → x ≡ get_or xs i x
      → rectangle_of new ≡ around_all (box_of x) (option_map rectangle_of old)
      → option_map rectangle_of old ≡ box_round (map box_of (take i xs))
      → option_map rectangle_of (Some new) ≡ box_round (map box_of (take (i + 1) xs))
  box_grown grow xs i x old new below is around so_far =
      let before = take i xs in
      let more : take (i + 1) xs ≡ before ++ x ∷ [] = take_more xs i x below ∙ ap (λ y. before ++ y ∷ []) (sym is) in
      ap Some (around ∙ ap (around_all (box_of x)) so_far)
      ∙ sym (grow (map box_of before) (box_of x))
      ∙ ap box_round (sym (map-append box_of before (x ∷ [])))
      ∙ ap (λ ys. box_round (map box_of ys)) (sym more)

  pub box_whole : (xs : List X) (i : ℕ) (old : Option R) → length xs ≤ i → option_map rectangle_of old ≡ box_round (map box_of (take i xs)) → option_map rectangle_of old ≡ box_round (map box_of xs)
  box_whole xs i old past so_far = so_far ∙ ap (λ ys. box_round (map box_of ys)) (take_all i xs past)

pub none_round : None ≡ box_round []
unfolding box_round
none_round = refl

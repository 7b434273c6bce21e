-- Laws of the least rectangle round others.
use Rattle.std.specs.Prelude.{◌≡◌, ◌↔◌, List, [], ◌∷◌, ◌++◌, Some, None, ◌≤ℤ◌}
use Rattle.std.specs.List.{All}
use Rattle.design_model.specs.Geometry.{Rectangle}
use Rattle.measure_rules.specs.NetBoxes.{around_all, box_round}

-- a rectangle lies in another: on none of the four sides does it go past it
pub record LiesIn (r b : Rectangle) : Type 0 where
  pub x1 : b.x1 ≤ℤ r.x1
  pub y1 : b.y1 ≤ℤ r.y1
  pub x2 : r.x2 ≤ℤ b.x2
  pub y2 : r.y2 ≤ℤ b.y2

-- a rectangle holds all of these
abbrev pub HoldsAll : List Rectangle → Rectangle → Type 0
HoldsAll rs b = All (λ r. LiesIn r b) rs

-- it does, and lies in each rectangle that does
pub record IsLeastRound (rs : List Rectangle) (b : Rectangle) : Type 0 where
  pub holds : HoldsAll rs b
  pub least : (c : Rectangle) → HoldsAll rs c → LiesIn b c

-- The box round rectangles holds all of them, and lies in each rectangle that does.
abbrev pub ABoxIsTheLeast : Type 0
ABoxIsTheLeast = (rs : List Rectangle) (b : Rectangle) → box_round rs ≡ Some b → IsLeastRound rs b

-- Just where there is no rectangle there is no box.
abbrev pub NoRectanglesNoBox : Type 0
NoRectanglesNoBox = (rs : List Rectangle) → (box_round rs ≡ None) ↔ (rs ≡ [])

-- The box round rectangles and one more is the box round that one and theirs.
abbrev pub BoxesGrow : Type 0
BoxesGrow = (rs : List Rectangle) (r : Rectangle) → box_round (rs ++ r ∷ []) ≡ Some (around_all r (box_round rs))

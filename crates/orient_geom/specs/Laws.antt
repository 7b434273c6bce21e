-- What turning and overlapping mean.
use Rattle.std.specs.Prelude.{◌≡◌, IsTrue, ◌↔◌, ℤ, ◌≤ℤ◌}
use Rattle.design_model.specs.declared.geometry.Orient.{Orient}
use Rattle.design_model.specs.declared.geometry.Orient.TheVariants.{N, W, S, E, FN, FS, FW, FE}
use Rattle.design_model.specs.Geometry.{Rectangle, turned, overlap}
use Rattle.place_rules.specs.Covering.{HasSquare}

-- the orientation that turns back
abbrev pub inverse : Orient → Orient
inverse N = N
inverse W = E
inverse S = S
inverse E = W
inverse FN = FN
inverse FS = FS
inverse FW = FW
inverse FE = FE

-- Turning by an orientation and then by its inverse gives the rectangle back.
abbrev pub TurningBack : Type 0
TurningBack = (o : Orient) (r : Rectangle) → r.x1 ≤ℤ r.x2 → r.y1 ≤ℤ r.y2 → turned (inverse o) (turned o r) ≡ r

-- Which of two rectangles comes first makes no difference to whether they overlap.
abbrev pub OverlapIsSymmetric : Type 0
OverlapIsSymmetric = (a b : Rectangle) → overlap a b ≡ overlap b a

-- Two rectangles overlap exactly where some unit square lies in both.
abbrev pub OverlapIsSharedArea : Type 0
OverlapIsSharedArea = (a b : Rectangle) → IsTrue (overlap a b) ↔ ((i j : ℤ) × HasSquare a i j × HasSquare b i j)

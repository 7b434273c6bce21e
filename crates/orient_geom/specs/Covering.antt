-- What covering means.
use Rattle.std.specs.Prelude.{IsTrue, ◌↔◌, ◌⊎◌, List, Contains, ◌≤ℤ◌}
use Rattle.design_model.specs.Geometry.{Rectangle}
use Rattle.place_rules.specs.Covering.{Covered, is_covered}

-- Rectangles cover a box exactly where each of its unit squares lies in one of them.
abbrev pub CoveredBySquares : Type 0
CoveredBySquares = (box : Rectangle) (list : List Rectangle) → IsTrue (is_covered box list) ↔ Covered box list

-- A rectangle that a box lies in covers it, whatever stands beside it.
abbrev pub CoveredByOne : Type 0
CoveredByOne = (box r : Rectangle) (list : List Rectangle) → Contains list r → r.x1 ≤ℤ box.x1 → r.y1 ≤ℤ box.y1 → box.x2 ≤ℤ r.x2 → box.y2 ≤ℤ r.y2 → IsTrue (is_covered box list)

-- Any rectangles cover a box without area.
abbrev pub CoveredWithoutArea : Type 0
CoveredWithoutArea = (box : Rectangle) (list : List Rectangle) → (box.x2 ≤ℤ box.x1) ⊎ (box.y2 ≤ℤ box.y1) → IsTrue (is_covered box list)

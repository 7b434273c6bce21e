-- What rows of sites and patterns mean.
use Rattle.std.specs.Prelude.{◌≡◌, ℕ, suc, ◌<◌, IsTrue, ◌&&◌, ◌↔◌, ◌⊎◌, List, ◌∷◌, ◌++◌, pos, neg_ℤ, ◌+ℤ◌, ◌-ℤ◌, ◌*ℤ◌, ◌≤ℤ◌, codes}
use Rattle.std.specs.Int.{int_min, int_max}
use Rattle.std.specs.Int.Signed.{le_z}
use Rattle.design_model.specs.declared.geometry.Orient.{Orient}
use Rattle.design_model.specs.declared.geometry.Point.{Point}
use Rattle.design_model.specs.Geometry.{Rectangle, turned, turned_point}
use Rattle.place_rules.specs.Patterns.{star, matches}
use Rattle.place_rules.specs.Sites.{SiteRow, spans, holds, is_on_sites, site_box, is_row_orient, turned_size}
use Rattle.place_kernels.specs.Stars.{Starless}

-- A row holds the box of each of its sites, and that box is on its sites.
abbrev pub SitesAreHeld : Type 0
SitesAreHeld = (row : SiteRow) (i j : ℕ) → i < row.columns → j < row.rows → IsTrue (holds row (site_box row i j)) × IsTrue (is_on_sites row (site_box row i j))

-- The first and the last site of a line are its ends: one is leftmost, and one is rightmost.
abbrev pub SpansBetweenEnds : Type 0
SpansBetweenEnds = (row : SiteRow) (n : ℕ) (box : Rectangle) → row.columns ≡ suc n → (
    let first = row.origin.x in
    let last = row.origin.x +ℤ (pos n *ℤ row.step.x) in
    spans row box ≡ (le_z (int_min first last) box.x1 && le_z box.x2 (int_max first last +ℤ row.size.x)))

-- flipped about the y axis
abbrev pub flipped : Point → Point
flipped p = record { x = neg_ℤ p.x; y = p.y }

-- A row takes its own orientation, and the one that turns as its own does and then flips about the y axis.
abbrev pub RowOrients : Type 0
RowOrients = (row component : Orient) → IsTrue (is_row_orient row component) ↔ ((component ≡ row) ⊎ ((p : Point) → turned_point component p ≡ flipped (turned_point row p)))

abbrev pub size_of : Rectangle → Point
size_of r = record { x = r.x2 -ℤ r.x1; y = r.y2 -ℤ r.y1 }

-- A turned site is as wide and as high as its turned rectangle.
abbrev pub TurnedSizes : Type 0
TurnedSizes = (orient : Orient) (size : Point) → pos 0 ≤ℤ size.x → pos 0 ≤ℤ size.y → turned_size orient size ≡ size_of (turned orient (record { x1 = pos 0; y1 = pos 0; x2 = size.x; y2 = size.y }))

-- A pattern without a star matches itself alone.
abbrev pub StarlessMatchesItself : Type 0
StarlessMatchesItself = (pattern name : List ℕ) → Starless pattern → IsTrue (matches pattern name) ↔ (pattern ≡ name)

-- A name matches two patterns with a star between them where its front matches the first and its end the second.
abbrev pub StarMatchesAnyBytes : Type 0
StarMatchesAnyBytes = (a b name : List ℕ) → IsTrue (matches (a ++ (star ∷ b)) name) ↔ ((x y z : List ℕ) × (name ≡ x ++ (y ++ z)) × IsTrue (matches a x) × IsTrue (matches b z))

-- Each name matches a star.
abbrev pub StarMatchesAll : Type 0
StarMatchesAll = (name : List ℕ) → IsTrue (matches (codes "*") name)

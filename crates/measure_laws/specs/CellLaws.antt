-- Laws of the cells of a grid.
use Rattle.std.specs.Prelude.{◌≡◌, ℕ, List, [], ◌∷◌, length, flat_map, ℤ, ◌≤ℤ◌, ◌==◌, if◌then◌else◌}
use Rattle.std.specs.List.{All, filter_map, sum_by}
use Rattle.design_model.specs.Geometry.{Rectangle}
use Rattle.shape_rules.specs.Classes.{numbers}
use Rattle.lef_grammar.specs.Measures.{Shape}
use Rattle.measure_rules.specs.Density.{area_of, common_area, density}
use Rattle.measure_rules.specs.GridCells.{cell_among}
use Rattle.measure_laws.specs.LineLaws.{Rise}

-- all cells among lines, column by column
abbrev pub cells_among : List ℤ → List ℤ → List Rectangle
cells_among columns rows = flat_map (λ i. filter_map (cell_among columns rows i) (numbers 0 (length rows))) (numbers 0 (length columns))

-- the last of a line and those after it
abbrev pub last_line : ℤ → List ℤ → ℤ
last_line l [] = l
last_line l (m ∷ ls) = last_line m ls

-- lines of which the first isn't behind a place, and the last isn't before another
abbrev pub Reach : List ℤ → ℤ → ℤ → Type 0
Reach [] low high = ⊥
Reach (l ∷ ls) low high = (l ≤ℤ low) × (high ≤ℤ last_line l ls)

-- a rectangle lies between the first and the last lines
pub record LiesAmong (columns rows : List ℤ) (r : Rectangle) : Type 0 where
  pub across : Reach columns r.x1 r.x2
  pub up : Reach rows r.y1 r.y2

-- What a rectangle that lies among lines has in common with their cells is its area.
abbrev pub CellsOfAGridAddUp : Type 0
CellsOfAGridAddUp = (columns rows : List ℤ) (r : Rectangle) → Rise columns → Rise rows → LiesAmong columns rows r
    → sum_by (λ cell. common_area cell r) (cells_among columns rows) ≡ area_of r

-- the whole area of a shape on a layer
abbrev pub whole_area_on : ℕ → Shape → ℕ
whole_area_on layer s = if s.layer == layer then area_of s.box else 0

-- The densities of all cells on a layer are the areas of the shapes on it, where all shapes lie among the lines.
abbrev pub DensitiesOfAGridAddUp : Type 0
DensitiesOfAGridAddUp = (columns rows : List ℤ) (ss : List Shape) (layer : ℕ) → Rise columns → Rise rows → All (λ s. LiesAmong columns rows s.box) ss
    → sum_by (density ss layer) (cells_among columns rows) ≡ sum_by (whole_area_on layer) ss

-- Laws of densities.
use Rattle.std.specs.Prelude.{◌≡◌, ◌≤◌, ℕ, ◌+◌, ◌*◌, List, [], ◌∷◌, ◌++◌, length}
use Rattle.design_model.specs.Geometry.{Rectangle}
use Rattle.lef_grammar.specs.Measures.{Shape}
use Rattle.measure_rules.specs.Density.{area_of, common_area, area_on, density}

-- A shape that is added at the end adds the area that it has on the layer in the cell.
abbrev pub AddedShapesAddTheirAreas : Type 0
AddedShapesAddTheirAreas = (ss : List Shape) (s : Shape) (layer : ℕ) (cell : Rectangle) → density (ss ++ s ∷ []) layer cell ≡ density ss layer cell + area_on layer cell s

-- The density of shapes and then more is that of the first and that of the others.
abbrev pub DensitiesAddUp : Type 0
DensitiesAddUp = (ss ts : List Shape) (layer : ℕ) (cell : Rectangle) → density (ss ++ ts) layer cell ≡ density ss layer cell + density ts layer cell

-- What a rectangle has in common with a cell is no more than the cell.
abbrev pub CommonIsInTheCell : Type 0
CommonIsInTheCell = (cell r : Rectangle) → common_area cell r ≤ area_of cell

-- So each shape adds at most the area of the cell.
abbrev pub DensitiesAreWithin : Type 0
DensitiesAreWithin = (ss : List Shape) (layer : ℕ) (cell : Rectangle) → density ss layer cell ≤ length ss * area_of cell

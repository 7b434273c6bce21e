-- Sums that are the densities of cells.
use Rattle.std.specs.Prelude.{◌≡◌, ℕ, ◌+◌, ◌-◌, ◌*◌, List, [], ◌∷◌, ◌++◌, Option, Some, None, ℤ}
use Rattle.std.specs.Option.{option_map}
use Rattle.design_model.specs.Geometry.{Rectangle}
use Rattle.lef_grammar.specs.Measures.{Shape}
use Rattle.design_rules.specs.Boxes.{Boxed}
use Rattle.measure_rules.specs.Density.{density}
use Rattle.measure_rules.specs.GridCells.{cell_among}
use Rattle.cell_sums.specs.Tables.{CellTable, sums}

-- the numbers under which areas of a layer are summed: of shapes that came, and of those of them that went again
abbrev pub came : ℕ → ℕ
came layer = layer * 2

abbrev pub went : ℕ → ℕ
went layer = layer * 2 + 1

-- in each cell the sum of what came is the density of these shapes, and the sum of what went
pub record HoldsDensities (columns rows : List ℤ) (shapes : List Shape) (t : CellTable) : Type 0 where
  pub columns_are : t.columns ≡ columns
  pub rows_are : t.rows ≡ rows
  pub densities : (layer i j : ℕ) (cell : Rectangle) → cell_among columns rows i j ≡ Some cell → sums t (came layer) i j ≡ density shapes layer cell + sums t (went layer) i j

-- whatever shapes the sums were densities of, they are those of these shapes as well
pub record HoldsMore (more : List Shape) (old new : CellTable) : Type 0 where
  pub holds : (columns rows : List ℤ) (shapes : List Shape) → HoldsDensities columns rows shapes old → HoldsDensities columns rows (shapes ++ more) new

-- whatever other shapes the sums were densities of beside these, they are those of the others alone
pub record HoldsLess (less : List Shape) (old new : CellTable) : Type 0 where
  pub holds : (columns rows : List ℤ) (rest : List Shape) → HoldsDensities columns rows (less ++ rest) old → HoldsDensities columns rows rest new

-- whatever other shapes the sums were densities of beside those that are gone, they are those of the others with those that have come
pub record HasExchanged (gone come : List Shape) (old new : CellTable) : Type 0 where
  pub holds : (columns rows : List ℤ) (rest : List Shape) → HoldsDensities columns rows (gone ++ rest) old → HoldsDensities columns rows (come ++ rest) new

-- a rectangle on a layer, and the box of a component, which counts on layer 0
abbrev pub shape_on : ℕ → Rectangle → Shape
shape_on layer r = record { layer = layer; box = r }

abbrev pub box_shape : Boxed → Shape
box_shape b = shape_on 0 b.box

-- the box of a component that may have none
abbrev pub box_shapes : Option Rectangle → List Shape
box_shapes None = []
box_shapes (Some r) = shape_on 0 r ∷ []

-- the density of a cell, where there is one
abbrev pub density_in : CellTable → ℕ → ℕ → ℕ → Option ℕ
density_in t layer i j = option_map (λ (cell : Rectangle). sums t (came layer) i j - sums t (went layer) i j) (cell_among t.columns t.rows i j)

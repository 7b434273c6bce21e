-- The cells of the grid that the GCELLGRID statements of a design make (LEF/DEF 5.8 Language Reference, "GCell Grid"). That all
-- lines of an axis are one grid, whatever their statements, is (own).
use Rattle.std.specs.Prelude.{ℕ, zero, suc, Bool, true, false, List, [], ◌∷◌, map, flat_map, Option, Some, None, ℤ, pos, nat_abs, ◌+ℤ◌, ◌*ℤ◌, int_lt, if◌then◌else◌}
use Rattle.design_model.specs.Geometry.{Rectangle}
use Rattle.form_meanings.specs.Words.{◌>>=◌}
use Rattle.def_grammar.specs.Grids.{Axis, along_x, along_y, GridLines}
use Rattle.def_grammar.specs.Numbers.{int_of}
use Rattle.def_grammar.specs.Records.{Record, top}
use Rattle.def_grammar.specs.Top.{gcell_grid}
use Rattle.shape_rules.specs.Classes.{numbers}

-- the lines of a statement: the first, and the others so far apart
abbrev pub line_at : GridLines → ℕ → ℤ
line_at g i = int_of g.start +ℤ pos i *ℤ int_of g.step

abbrev pub lines_of : GridLines → List ℤ
lines_of g = map (line_at g) (numbers 0 (nat_abs (int_of g.count)))

abbrev pub is_x : Axis → Bool
is_x along_x = true
is_x along_y = false

-- the lines that a statement puts across an axis
abbrev pub lines_along_x : Record → List ℤ
lines_along_x (top (gcell_grid g)) = if is_x g.axis then lines_of g.lines else []
lines_along_x _ = []

abbrev pub lines_along_y : Record → List ℤ
lines_along_y (top (gcell_grid g)) = if is_x g.axis then [] else lines_of g.lines
lines_along_y _ = []

-- a line among others that rise, where it isn't there yet
unfoldable pub with_line : ℤ → List ℤ → List ℤ
with_line z [] = z ∷ []
with_line z (l ∷ ls) = if int_lt z l then z ∷ l ∷ ls else (if int_lt l z then l ∷ with_line z ls else l ∷ ls)

-- lines in order, each once
unfoldable pub in_order : List ℤ → List ℤ
in_order [] = []
in_order (l ∷ ls) = with_line l (in_order ls)

abbrev pub columns : List Record → List ℤ
columns design = in_order (flat_map lines_along_x design)

abbrev pub rows : List Record → List ℤ
rows design = in_order (flat_map lines_along_y design)

-- the two neighbours among lines between which the cells of a number lie
unfoldable pub between : List ℤ → ℕ → Option (ℤ × ℤ)
between [] n = None
between (l ∷ []) n = None
between (l ∷ m ∷ ls) zero = Some (l, m)
between (l ∷ m ∷ ls) (suc n) = between (m ∷ ls) n

-- the cell in a column and a row among lines, each counted from 0, where there is one
abbrev pub cell_among : List ℤ → List ℤ → ℕ → ℕ → Option Rectangle
cell_among columns rows i j = do
  (x1, x2) ← between columns i
  (y1, y2) ← between rows j
  Some (record { x1 = x1; y1 = y1; x2 = x2; y2 = y2 })

abbrev pub cell_at : List Record → ℕ → ℕ → Option Rectangle
cell_at design i j = cell_among (columns design) (rows design) i j

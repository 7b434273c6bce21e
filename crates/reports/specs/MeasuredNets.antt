-- What is kept of each net.
use Rattle.std.specs.Prelude.{◌≡◌, ℕ, zero, suc, List, [], ◌∷◌, ◌++◌, flat_map, length, map, sum, Option, ℤ}
use Rattle.std.specs.Option.{option_map}
use Rattle.design_model.specs.Geometry.{Rectangle}
use Rattle.design_model.specs.Views.{rectangle_of}
use Rattle.connection_rules.specs.NetLines as net_lines
use Rattle.connection_rules.specs.NetLines.{shapes_of_net}
use Rattle.connection_rules.specs.NetParts.{Net}
use Rattle.drawn_parts.specs.DrawnLengths.{capped}
use Rattle.cell_sums.specs.Tables.{CellTable}
use Rattle.reports.specs.Densities.{HoldsDensities}
use Rattle.net_lists.specs.declared.parts.NetShape.{NetShape}
use Rattle.measure_rules.specs.NetBoxes.{box_round, rectangles_of}
use Rattle.reports.specs.declared.net_table.Measures.{Measures}

-- a net: its name, its length, and the box round its shapes, if it has some
pub record MeasuredNet : Type 0 where
  pub name : List ℕ
  pub net_length : ℕ
  pub net_box : Option Rectangle

abbrev pub name_of : MeasuredNet → List ℕ
name_of n = n.name

-- nets of these lengths
abbrev pub measured : List Net → List ℕ → List MeasuredNet
measured [] lengths = []
measured (n ∷ ns) [] = []
measured (n ∷ ns) (l ∷ ls) = record { name = n.name; net_length = l; net_box = box_round (rectangles_of n) } ∷ measured ns ls

-- the net at a place has this length and this box, under its name
abbrev pub measured_at : ℕ → ℕ → Option Rectangle → List MeasuredNet → List MeasuredNet
measured_at place net_length net_box [] = []
measured_at zero net_length net_box (n ∷ ns) = record { name = n.name; net_length = net_length; net_box = net_box } ∷ ns
measured_at (suc place) net_length net_box (n ∷ ns) = n ∷ measured_at place net_length net_box ns

abbrev pub measures_view : List ℕ → Measures → MeasuredNet
measures_view name m = record { name = name; net_length = m.length; net_box = option_map rectangle_of m.bounds }

abbrev pub entry_view : List ℕ × Measures → MeasuredNet
entry_view e = measures_view e.0 e.1

-- the rectangle of a shape
abbrev pub shape_box : NetShape → Rectangle
shape_box s = rectangle_of s.rect

-- what was measured of nets of these lengths, behind which nets of the names that are left stand unmeasured: each in the table, the
-- lengths together, and the densities of their shapes
pub record AreMeasured (columns rows : List ℤ) (nets : List Net) (lengths : List ℕ) (left : List (List ℕ)) (table : List MeasuredNet) (total : ℕ) (cells : CellTable) : Type 0 where
  pub each : length nets ≡ length lengths
  pub unmeasured : List MeasuredNet
  pub by_name : table ≡ measured nets lengths ++ unmeasured
  pub named : map name_of unmeasured ≡ left
  pub together : total ≡ capped (sum lengths)
  pub densities : HoldsDensities columns rows (map (λ (s : net_lines.NetShape). s.shape) (flat_map shapes_of_net nets)) cells

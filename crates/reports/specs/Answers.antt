-- What is answered on the measures of a design.
use Rattle.std.specs.Prelude.{◌≡◌, ℕ, nat_lt, List, length, map, Option, None, if◌then◌else◌}
use Rattle.std.specs.Option.{option_map}
use Rattle.design_model.specs.Geometry.{Rectangle}
use Rattle.form_meanings.specs.Firsts.{find_named}
use Rattle.def_grammar.specs.Records.{Record}
use Rattle.lef_grammar.specs.Library.{Library}
use Rattle.connection_rules.specs.NetLines.{NetShape, net_shapes}
use Rattle.design_rules.specs.Boxes.{boxes, scale}
use Rattle.measure_rules.specs.Density.{cell_density, place_density}
use Rattle.measure_rules.specs.GridCells.{columns, rows}
use Rattle.measure_rules.specs.Lengths as lengths
use Rattle.measure_rules.specs.NetBoxes as net_boxes
use Rattle.cell_sums.specs.Tables.{CellTable}
use Rattle.reports.specs.Densities.{HoldsDensities, box_shape, density_in}
use Rattle.reports.specs.MeasuredNets.{MeasuredNet, name_of}

-- what the answers are found in: how many layers there are, the nets, the lengths of all nets together, and the sums of the cells on
-- layers, and with components, of which densities are made (Densities)
pub record Answers : Type 0 where
  pub layers : ℕ
  pub nets : List MeasuredNet
  pub total_length : ℕ
  pub cells : CellTable
  pub place_cells : CellTable

-- the length and the box of the net of a name
abbrev pub length_in : Answers → List ℕ → Option ℕ
length_in a name = option_map (λ (n : MeasuredNet). n.net_length) (find_named name_of a.nets name)

abbrev pub box_in : Answers → List ℕ → Option (Option Rectangle)
box_in a name = option_map (λ (n : MeasuredNet). n.net_box) (find_named name_of a.nets name)

-- the density of a cell by column, row and layer, and with components
abbrev pub cell_in : Answers → ℕ → ℕ → ℕ → Option ℕ
cell_in a i j layer = if nat_lt layer a.layers then density_in a.cells layer i j else None

abbrev pub place_cell_in : Answers → ℕ → ℕ → Option ℕ
place_cell_in a i j = density_in a.place_cells 0 i j

-- they are those of a design; the last three say what tells the densities, so that an exchange of shapes can be followed
pub record ReportsOn (library : Library) (design : List Record) (a : Answers) : Type 0 where
  pub net_length : (name : List ℕ) → length_in a name ≡ lengths.net_length library design (scale design) name
  pub net_box : (name : List ℕ) → box_in a name ≡ net_boxes.net_box library design (scale design) name
  pub total_length : a.total_length ≡ lengths.total_length library design (scale design)
  pub cell : (i j layer : ℕ) → cell_in a i j layer ≡ cell_density library design i j layer
  pub place_cell : (i j : ℕ) → place_cell_in a i j ≡ place_density library design i j
  pub layers : a.layers ≡ length library.layers
  pub cells : HoldsDensities (columns design) (rows design) (map (λ (s : NetShape). s.shape) (net_shapes library design (scale design))) a.cells
  pub place_cells : HoldsDensities (columns design) (rows design) (map box_shape (boxes library design)) a.place_cells

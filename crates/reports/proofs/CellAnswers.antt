-- Sums of cells are the densities of a design.
use Rattle.std.proofs.Common.{◌≡◌, ℕ, ◌+◌, ◌-◌, nat_lt, List, [], ◌∷◌, map, length, refl, sym, ap, ap₂, ◌∙◌, Option, Some, None, if◌then◌else◌, ℤ, arith}
use Rattle.std.specs.List.{sum_by}
use Rattle.std.specs.Option.{option_map}
use Rattle.std.proofs.lemmas.List.Sums.{sum_by-cons}
use Rattle.design_model.specs.Geometry.{Rectangle}
use Rattle.def_grammar.specs.Records.{Record}
use Rattle.lef_grammar.specs.Library.{Library}
use Rattle.lef_grammar.specs.Measures.{Shape}
use Rattle.connection_rules.specs.NetLines.{NetShape, net_shapes}
use Rattle.design_rules.specs.Boxes.{Boxed, boxes, scale}
use Rattle.measure_rules.specs.Density.{area_on, cell_density, common_area, density, place_density}
use Rattle.measure_rules.specs.Lengths as lengths
use Rattle.measure_rules.specs.NetBoxes as net_boxes
use Rattle.measure_rules.specs.GridCells.{cell_among, cell_at, columns, rows}
use Rattle.cell_sums.specs.Tables.{CellTable, sums}
use Rattle.reports.specs.Answers.{Answers, ReportsOn, box_in, length_in}
use Rattle.reports.specs.Densities.{HoldsDensities, box_shape, came, density_in, went}

less_gone : (x d y : ℕ) → x ≡ d + y → x - y ≡ d
less_gone x d y e = omega (arith, e)

-- the sums of a table are the densities of its shapes
module _ (xs ys : List ℤ) (shapes : List Shape) (t : CellTable) (held : HoldsDensities xs ys shapes t) (layer i j : ℕ) where
  abbrev left : Rectangle → ℕ
  left cell = sums t (came layer) i j - sums t (went layer) i j

  by_cell : (o : Option Rectangle) → cell_among xs ys i j ≡ o → option_map left o ≡ option_map (density shapes layer) o
  by_cell None is = refl
  by_cell (Some cell) is = ap Some (less_gone _ _ _ (held.densities layer i j cell is))

  density_is : density_in t layer i j ≡ option_map (density shapes layer) (cell_among xs ys i j)
  density_is = ap₂ (λ cs rs. option_map left (cell_among cs rs i j)) held.columns_are held.rows_are ∙ by_cell (cell_among xs ys i j) refl

module _ (library : Library) (design : List Record) where
  cell_is : (t : CellTable) (layers : ℕ) → HoldsDensities (columns design) (rows design) (map (λ (s : NetShape). s.shape) (net_shapes library design (scale design))) t
      → layers ≡ length library.layers → (i j layer : ℕ) → (if nat_lt layer layers then density_in t layer i j else None) ≡ cell_density library design i j layer
  cell_is t layers held count i j layer =
      ap₂ (λ n (o : Option ℕ). if nat_lt layer n then o else None) count
      (density_is (columns design) (rows design) (map (λ (s : NetShape). s.shape) (net_shapes library design (scale design))) t held layer i j)

  areas_are : (cell : Rectangle) (bs : List Boxed) → density (map box_shape bs) 0 cell ≡ sum_by (λ (b : Boxed). common_area cell b.box) bs
  areas_are cell [] = refl
  areas_are cell (b ∷ bs) =
      sum_by-cons (area_on 0 cell) (box_shape b) (map box_shape bs)
      ∙ ap (λ n. common_area cell b.box + n) (areas_are cell bs)
      ∙ sym (sum_by-cons (λ (b : Boxed). common_area cell b.box) b bs)

  areas_in : (bs : List Boxed) (o : Option Rectangle) → option_map (density (map box_shape bs) 0) o ≡ option_map (λ cell. sum_by (λ (b : Boxed). common_area cell b.box) bs) o
  areas_in bs None = refl
  areas_in bs (Some cell) = ap Some (areas_are cell bs)

  place_is : (t : CellTable) → HoldsDensities (columns design) (rows design) (map box_shape (boxes library design)) t → (i j : ℕ) → density_in t 0 i j ≡ place_density library design i j
  place_is t held i j =
      density_is (columns design) (rows design) (map box_shape (boxes library design)) t held 0 i j
      ∙ areas_in (boxes library design) (cell_at design i j)

  -- what is told of nets, and what cells hold, is all that is answered
  pub reports_on : (a : Answers) → ((name : List ℕ) → length_in a name ≡ lengths.net_length library design (scale design) name) → ((name : List ℕ) → box_in a name ≡ net_boxes.net_box library design (scale design) name)
      → a.total_length ≡ lengths.total_length library design (scale design) → a.layers ≡ length library.layers
      → HoldsDensities (columns design) (rows design) (map (λ (s : NetShape). s.shape) (net_shapes library design (scale design))) a.cells
      → HoldsDensities (columns design) (rows design) (map box_shape (boxes library design)) a.place_cells
      → ReportsOn library design a
  reports_on a net_length net_box total_length layers cells place_cells = record {
    net_length = net_length;
    net_box = net_box;
    total_length = total_length;
    cell = cell_is a.cells a.layers cells layers;
    place_cell = place_is a.place_cells place_cells;
    layers = layers;
    cells = cells;
    place_cells = place_cells;
  }

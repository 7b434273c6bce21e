-- What is measured of a design of which some nets, or a component, are exchanged.
use Rattle.std.specs.Prelude.{◌≡◌, ◌+◌, ℕ, Bool, true, false, not, List, [], ◌++◌, filter, Option, Some, None}
use Rattle.std.specs.List.{filter_map, list_any, sum_by}
use Rattle.def_grammar.specs.Records as records
use Rattle.def_grammar.specs.Records.{Record, entry, top}
use Rattle.def_grammar.specs.Top.{gcell_grid}
use Rattle.lef_grammar.specs.Library.{Library}
use Rattle.connection_rules.specs.NetParts.{net_named}
use Rattle.design_rules.specs.Boxes.{Boxed, boxes, component_box, scale}
use Rattle.following_laws.specs.Following.{Exchange}
use Rattle.measure_rules.specs.GridCells.{columns, rows}
use Rattle.measure_rules.specs.Lengths.{is_net, length_of, net_length, total_length}
use Rattle.measure_rules.specs.NetBoxes.{box_round, net_box, rectangles_of}
use Rattle.net_laws.specs.NetChanges.{AgreeApart, AreToldIn, is_one_of}
use Rattle.net_laws.specs.NetsTold.{is_common, is_of_net}
use Rattle.net_laws.specs.StarNets.{those_named}
use Rattle.net_laws.specs.Within.{is_component}

-- A net is as long in two designs, and a net in both or in neither.
pub record AreAsLong (library : Library) (a b : List Record) (u : ℕ) (name : List ℕ) : Type 0 where
  pub length : length_of library a u name ≡ length_of library b u name
  pub is_net : is_net library a u name ≡ is_net library b u name

-- So it is where these agree on its entries, and on what any net may be made of; no pin makes a net longer.
abbrev pub LengthsAreTold : Type 0
LengthsAreTold = (library : Library) (a b : List Record) (u : ℕ) (name : List ℕ) → filter is_common a ≡ filter is_common b → filter (is_of_net name) a ≡ filter (is_of_net name) b
    → AreAsLong library a b u name

-- Of some nets that are exchanged each has a length and a box of its own; the others keep theirs; and all nets together are as much longer
-- as these are.
pub record MeasuresFollow (library : Library) (old new : List Record) (nets : List (List ℕ)) : Type 0 where
  pub lengths : (name : List ℕ) → is_one_of nets name ≡ false → net_length library new (scale new) name ≡ net_length library old (scale old) name
  pub boxes : (name : List ℕ) → is_one_of nets name ≡ false → net_box library new (scale new) name ≡ net_box library old (scale old) name
  pub own_length : (name : List ℕ) → is_one_of nets name ≡ true → net_length library new (scale new) name ≡ Some (length_of library new (scale new) name)
  pub own_box : (name : List ℕ) → is_one_of nets name ≡ true → net_box library new (scale new) name ≡ Some (box_round (rectangles_of (net_named library new (scale new) name)))
  pub total : total_length library new (scale new) + sum_by (length_of library old (scale old)) nets ≡ total_length library old (scale old) + sum_by (length_of library new (scale new)) nets

-- So it is where designs agree apart from these nets, which few statements tell in both.
abbrev pub ToldMeasuresFollow : Type 0
ToldMeasuresFollow = (library : Library) (old new : List Record) (nets : List (List ℕ)) → AgreeApart old new (is_one_of nets) → AreToldIn old nets → AreToldIn new nets
    → MeasuresFollow library old new nets

-- a statement of what cells hold beside nets: one of the grid, or a component, but for the one of a name, if there is one
abbrev pub is_of_cells : Option (List ℕ) → Record → Bool
is_of_cells but (top (gcell_grid g)) = true
is_of_cells but (entry (records.component c)) = not (is_component but c.name)
is_of_cells but _ = false

-- the boxes of the components of that name which take part
abbrev pub own_boxes : Library → List Record → Option (List ℕ) → List Boxed
own_boxes library design None = []
own_boxes library design (Some name) = filter_map (component_box library (scale design)) (those_named name design)

-- Designs of one scale that agree on such statements have the same cells, and in them the same boxes but for those of that name.
pub record CellsFollow (library : Library) (a b : List Record) (but : Option (List ℕ)) : Type 0 where
  pub columns : columns a ≡ columns b
  pub rows : rows a ≡ rows b
  pub stay : List Boxed
  pub boxes : Exchange (boxes library a) (boxes library b) (own_boxes library a but) (own_boxes library b but) stay

abbrev pub ToldCellsFollow : Type 0
ToldCellsFollow = (library : Library) (a b : List Record) (but : Option (List ℕ)) → filter (is_of_cells but) a ≡ filter (is_of_cells but) b → scale a ≡ scale b → CellsFollow library a b but

-- An exchange of other statements leaves these.
abbrev pub OthersLeaveCells : Type 0
OthersLeaveCells = (front out put behind : List Record) (but : Option (List ℕ)) → list_any (is_of_cells but) out ≡ false → list_any (is_of_cells but) put ≡ false
    → filter (is_of_cells but) (front ++ (out ++ behind)) ≡ filter (is_of_cells but) (front ++ (put ++ behind))

-- What becomes of answers where nets of a design are exchanged for those of another, one after the other.
use Rattle.std.specs.Prelude.{◌≡◌, ◌+◌, ℕ, List, Some, flat_map, if◌then◌else◌, map}
use Rattle.std.specs.List.{sum_by}
use Rattle.def_grammar.specs.Records.{Record}
use Rattle.lef_grammar.specs.Library.{Library}
use Rattle.lef_grammar.specs.Measures.{Shape}
use Rattle.connection_rules.specs.NetLines.{NetShape, shapes_of_net}
use Rattle.connection_rules.specs.NetParts.{Net, net_named}
use Rattle.design_rules.specs.Boxes.{scale}
use Rattle.measure_rules.specs.Lengths as lengths
use Rattle.measure_rules.specs.Lengths.{length_of}
use Rattle.measure_rules.specs.NetBoxes as net_boxes
use Rattle.measure_rules.specs.NetBoxes.{box_round, rectangles_of}
use Rattle.net_laws.specs.NetChanges.{is_one_of}
use Rattle.reports.specs.Answers.{Answers, box_in, length_in}
use Rattle.reports.specs.Densities.{HasExchanged}
use Rattle.followed_nets.specs.Blocked.{AllTell}

abbrev pub shapes_of : List Net → List Shape
shapes_of nets = map (λ (s : NetShape). s.shape) (flat_map shapes_of_net nets)

abbrev pub nets_of : Library → List Record → List (List ℕ) → List Net
nets_of library design names = map (net_named library design (scale design)) names

-- the nets of these names have what a new design says of them, in the place of what an old one does; each other net has what it had
pub record NetsExchanged (library : Library) (old new : List Record) (names : List (List ℕ)) (before after : Answers) : Type 0 where
  pub tell : AllTell old names
  pub then_tell : AllTell new names
  pub layers : after.layers ≡ before.layers
  pub net_length : (n : List ℕ) → length_in after n ≡ (if is_one_of names n then Some (length_of library new (scale new) n) else length_in before n)
  pub net_box : (n : List ℕ) → box_in after n ≡ (if is_one_of names n then Some (box_round (rectangles_of (net_named library new (scale new) n))) else box_in before n)
  pub total_length : after.total_length + sum_by (length_of library old (scale old)) names ≡ before.total_length + sum_by (length_of library new (scale new)) names
  pub cells : HasExchanged (shapes_of (nets_of library old names)) (shapes_of (nets_of library new names)) before.cells after.cells
  pub place_cells : after.place_cells ≡ before.place_cells

-- what is answered on a net is what a design says of it
pub record HasNet (library : Library) (design : List Record) (a : Answers) (name : List ℕ) : Type 0 where
  pub net_length : length_in a name ≡ lengths.net_length library design (scale design) name
  pub net_box : box_in a name ≡ net_boxes.net_box library design (scale design) name

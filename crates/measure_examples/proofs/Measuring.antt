-- What of a small DEF text is measured, with the library of the examples on nets.
use Rattle.std.specs.Prelude.{ℕ, List, ◌++◌, Option, Some, None, Result, Ok, Err, codes}
use Rattle.design_model.specs.declared.fault.Fault.{Fault}
use Rattle.design_model.specs.Geometry.{Rectangle}
use Rattle.def_grammar.specs.Records.{Record, read_def}
use Rattle.connection_examples.proofs.NetTexts.{library, net_words}
use Rattle.measure_rules.specs.Density.{cell_density, place_density}
use Rattle.measure_rules.specs.GridCells.{between, in_order, with_line}
use Rattle.measure_rules.specs.Lengths.{net_length, total_length}
use Rattle.measure_rules.specs.NetBoxes.{box_round, net_box}

unfoldable pub measure_words : Unit {0}
unfolding net_words box_round with_line in_order between
measure_words = tt

-- what is asked of the design of a text of UNITS, these statements, and END DESIGN
abbrev asked : {A : Type 0} → (List Record → A) → Result (List Record) Fault → Option A
asked of (Ok design) = Some (of design)
asked of (Err fault) = None

abbrev pub of_text : {A : Type 0} → (List Record → A) → List ℕ → Option A
of_text of statements = asked of (read_def (codes "UNITS DISTANCE MICRONS 1000 ;\n" ++ statements ++ codes "END DESIGN\n"))

abbrev pub length_in : List ℕ → List ℕ → Option (Option ℕ)
length_in statements name = of_text (λ design. net_length library design 1000 name) statements

abbrev pub total_in : List ℕ → Option ℕ
total_in statements = of_text (λ design. total_length library design 1000) statements

abbrev pub box_in : List ℕ → List ℕ → Option (Option (Option Rectangle))
box_in statements name = of_text (λ design. net_box library design 1000 name) statements

-- the layers of the library by their places: nwell, met1, via1 and met2
abbrev pub cell_in : List ℕ → ℕ → ℕ → ℕ → Option (Option ℕ)
cell_in statements i j layer = of_text (λ design. cell_density library design i j layer) statements

abbrev pub place_cell_in : List ℕ → ℕ → ℕ → Option (Option ℕ)
place_cell_in statements i j = of_text (λ design. place_density library design i j) statements

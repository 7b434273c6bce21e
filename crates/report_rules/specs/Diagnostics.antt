-- All diagnostics of a design (own).
use Rattle.std.specs.Prelude.{ℕ, List, [], ◌∷◌, flat_map}
use Rattle.design_model.specs.Order.{sorted_by_bytes}
use Rattle.def_grammar.specs.Records.{Record}
use Rattle.lef_grammar.specs.Library.{Library}
use Rattle.connection_rules.specs.NetLines.{net_lines}
use Rattle.design_rules.specs.Boxes.{scale}
use Rattle.design_rules.specs.CountLines.{count_lines}
use Rattle.design_rules.specs.OverlapLines.{overlap_lines}
use Rattle.design_rules.specs.PlaceLines.{place_lines}
use Rattle.entry_rules.specs.Unknown.{known_by, unknown_lines_of}
use Rattle.entry_rules.specs.OffLayer.{off_layer_lines_of}
use Rattle.entry_rules.specs.Unchecked.{unchecked_in_library, unchecked_lines_of}
use Rattle.entry_rules.specs.ViaLayers.{via_layers}

-- the families of lines on one statement by itself
abbrev pub statement_families : Library → List Record → List (Record → List (List ℕ))
statement_families library design = unknown_lines_of (known_by library design) ∷ off_layer_lines_of (via_layers library design) ∷ unchecked_lines_of ∷ []

-- the lines on one statement of a design
abbrev pub statement_lines : Library → List Record → Record → List (List ℕ)
statement_lines library design r = flat_map (λ lines_of. lines_of r) (statement_families library design)

-- the families of lines on a whole design
abbrev pub design_families : List (Library → List Record → List (List ℕ))
design_families =
    (λ library design. count_lines design)
    ∷ (λ library design. flat_map (statement_lines library design) design)
    ∷ (λ library design. unchecked_in_library library)
    ∷ overlap_lines ∷ place_lines
    ∷ (λ library design. net_lines library design (scale design)) ∷ []

-- all lines, each family after the other
abbrev pub all_lines : Library → List Record → List (List ℕ)
all_lines library design = flat_map (λ lines_of. lines_of library design) design_families

-- all lines, in the order of their bytes, repeats kept
abbrev pub diagnostics : Library → List Record → List (List ℕ)
diagnostics library design = sorted_by_bytes (all_lines library design)

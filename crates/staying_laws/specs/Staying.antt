-- The parts of a report, and which of them an edit leaves as they are.
use Rattle.std.specs.Prelude.{ℕ, List, ◌++◌, flat_map}
use Rattle.def_grammar.specs.Records.{Record}
use Rattle.lef_grammar.specs.Library.{Library}
use Rattle.entry_rules.specs.Unchecked.{unchecked_in_library}
use Rattle.connection_rules.specs.NetLines.{net_lines}
use Rattle.design_rules.specs.Boxes.{scale}
use Rattle.design_rules.specs.CountLines.{count_lines}
use Rattle.design_rules.specs.OverlapLines.{overlap_lines}
use Rattle.design_rules.specs.PlaceLines.{place_lines}
use Rattle.line_laws.specs.Lines.{SameLines}
use Rattle.report_rules.specs.Diagnostics.{all_lines, statement_lines}

-- the lines on headers, on single statements, and on the library
abbrev pub lines_on_statements : Library → List Record → List (List ℕ)
lines_on_statements library design = count_lines design ++ (flat_map (statement_lines library design) design ++ unchecked_in_library library)

-- the lines on components
abbrev pub lines_on_places : Library → List Record → List (List ℕ)
lines_on_places library design = overlap_lines library design ++ place_lines library design

-- These lines and those on nets are all lines of a report.
abbrev pub PartsAreAll : Type 0
PartsAreAll = (library : Library) (design : List Record)
    → SameLines (lines_on_statements library design ++ (lines_on_places library design ++ net_lines library design (scale design))) (all_lines library design)

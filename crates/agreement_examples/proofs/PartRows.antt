-- Worked rows of the parts of a report, before and after an edit, by computing.
use Rattle.std.proofs.Common.{◌≡◌, ℕ, List, [], ◌∷◌, None, Some, Result, Ok, Err, refl, codes, pos}
use Rattle.design_model.specs.Units.{Distance}
use Rattle.design_model.specs.declared.fault.Fault.{Fault}
use Rattle.design_model.specs.declared.geometry.Orient.TheVariants.{N}
use Rattle.def_grammar.specs.Records.{Record, read_def}
use Rattle.lef_grammar.specs.Library.{Library, empty_library}
use Rattle.place_rules.specs.Covering.{is_covered}
use Rattle.edit_rules.specs.ComponentEdits.{unplace_it}
use Rattle.edit_rules.specs.Edits.{applied, of_component, of_net, place}
use Rattle.edit_rules.specs.NetEdits.{disconnect_from}
use Rattle.entry_examples.proofs.Computing.{def_lines}
use Rattle.staying_laws.specs.Staying.{lines_on_places, lines_on_statements}

abbrev two_microns : Distance
two_microns = record { value = pos 2; places = 0 }

-- a macro of 2 by 2
abbrev pub square_library : Library
square_library = record empty_library {
  macros = record { name = codes "M"; class = None; size = Some (two_microns, two_microns); origin = None; sites = []; pins = [] } ∷ [];
}

abbrev pub records_of : Result (List Record) Fault → List Record
records_of (Ok design) = design
records_of (Err fault) = []

-- two components that overlap, under a header that says three, and a net with a terminal of another
abbrev design : List Record
design =
    records_of (read_def (codes "UNITS DISTANCE MICRONS 1 ;\nCOMPONENTS 3 ;\n- c M + PLACED ( 0 0 ) N ;\n- d M + PLACED ( 1 0 ) N ;\nEND COMPONENTS\nNETS 1 ;\n- n ( e A ) ;\nEND NETS\nEND DESIGN\n"))

abbrev said : List (List ℕ)
said = codes "count COMPONENTS 3 2" ∷ codes "unknown COMPONENT e NETS n" ∷ []

abbrev overlapping : List (List ℕ)
overlapping = codes "overlap c d" ∷ []

before_edits : (lines_on_statements square_library design ≡ said) × (lines_on_places square_library design ≡ overlapping)
unfolding def_lines is_covered
before_edits = (refl, refl)

-- a component that moves away takes its lines on places with it, and no others
placed_apart : let moved = applied (place (codes "d") (pos 4) (pos 0) N) design in (lines_on_statements square_library moved ≡ said) × (lines_on_places square_library moved ≡ [])
unfolding def_lines is_covered
placed_apart = (refl, refl)

taken_up : let moved = applied (of_component (codes "d") unplace_it) design in (lines_on_statements square_library moved ≡ said) × (lines_on_places square_library moved ≡ [])
unfolding def_lines is_covered
taken_up = (refl, refl)

-- a net without its terminal has no line on it, and the lines on places stay
disconnected : let edited = applied (of_net (codes "n") (disconnect_from (codes "e") (codes "A"))) design in
    (lines_on_statements square_library edited ≡ codes "count COMPONENTS 3 2" ∷ []) × (lines_on_places square_library edited ≡ overlapping)
unfolding def_lines is_covered
disconnected = (refl, refl)

-- Pins of the program as those of the definitions.
use Rattle.std.specs.Prelude.{ℕ, List, map, sum}
use Rattle.lef_grammar.specs.Definitions.{Pin}
use Rattle.cell_library.specs.ShapeViews.{shapes_view}
use Rattle.cell_library.specs.declared.pin.Pin as code_pin

abbrev pub pin_name : Pin → List ℕ
pin_name p = p.name

abbrev pub pin_view : {A : Type 0} → List ℕ × code_pin.Pin A → Pin
pin_view e = record { name = e.0; shapes = map shapes_view e.1.shapes; unchecked = e.1.unchecked }

abbrev pub pins_view : {A : Type 0} → List (List ℕ × code_pin.Pin A) → List Pin
pins_view es = map pin_view es

-- how many parts of pins have no checked shape
abbrev pub unchecked_in : List Pin → ℕ
unchecked_in pins = sum (map (λ (p : Pin). p.unchecked) pins)

-- A macro of a library, and the shapes of its pins in database units, pin by pin.
use Rattle.std.specs.Prelude.{ℕ, List, map, flat_map}
use Rattle.lef_grammar.specs.Definitions.{Macro, Pin}
use Rattle.lef_grammar.specs.Library.{Library}
use Rattle.lef_grammar.specs.Measures.{Shape, pin_shapes}

-- a macro, with the library whose layers its shapes name
pub record LibraryMacro : Type 0 where
  pub library : Library
  pub cell : Macro

abbrev pub in_library : Library → Macro → LibraryMacro
in_library l m = record { library = l; cell = m }

-- a shape of the pin of a name
pub record PinShape : Type 0 where
  pub pin : List ℕ
  pub shape : Shape

abbrev pub in_pin : List ℕ → Shape → PinShape
in_pin name s = record { pin = name; shape = s }

abbrev pub macro_shapes : ℕ → LibraryMacro → List PinShape
macro_shapes u m = flat_map (λ (p : Pin). map (in_pin p.name) (pin_shapes u m.library m.cell p)) m.cell.pins

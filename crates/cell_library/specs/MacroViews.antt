-- Macros of the program as those of the definitions.
use Rattle.std.specs.Prelude.{ℕ, List, Option, map}
use Rattle.std.specs.Option.{option_map}
use Rattle.form_meanings.specs.Firsts.{first_of}
use Rattle.lef_grammar.specs.Definitions.{Distances, Macro, both_read, point_read}
use Rattle.lef_grammar.specs.MacroBlock.{MacroRecord, class_of, origin_of, size_of}
use Rattle.cell_library.specs.Numbers.{point_view}
use Rattle.cell_library.specs.PinViews.{pins_view}
use Rattle.lefdef_tokens.specs.Views.{word_view}
use Rattle.cell_library.specs.declared.macro_definition.Macro as code_macro
use Rattle.cell_library.specs.declared.macro_view.Header.{Header}

abbrev pub macro_name : Macro → List ℕ
macro_name m = m.name

abbrev pub macro_view : {A : Type 0} → List ℕ × code_macro.Macro A → Macro
macro_view e = record {
  name = e.0;
  class = option_map word_view e.1.class;
  size = option_map point_view e.1.size;
  origin = option_map point_view e.1.origin;
  sites = map word_view e.1.sites;
  pins = pins_view e.1.pins;
}

abbrev pub macros_view : {A : Type 0} → List (List ℕ × code_macro.Macro A) → List Macro
macros_view es = map macro_view es

-- what a macro says of itself: its class, its size and its origin
abbrev pub header_view : Header → Option (List ℕ) × (Option Distances × Option Distances)
header_view h = (option_map word_view h.class, (option_map point_view h.size, option_map point_view h.origin))

abbrev pub header_said : List MacroRecord → Option (List ℕ) × (Option Distances × Option Distances)
header_said rs = (first_of class_of rs, (option_map both_read (first_of size_of rs), option_map point_read (first_of origin_of rs)))

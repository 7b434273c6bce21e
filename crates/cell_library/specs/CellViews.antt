-- A macro of a library of the program as one of the definitions.
use Rattle.lef_grammar.specs.MacroShapes.{LibraryMacro, in_library}
use Rattle.cell_library.specs.MacroViews.{macro_view}
use Rattle.cell_library.specs.declared.macro_view.MacroView as code_view

abbrev pub cell_view : {A : Type 0} → code_view.MacroView A → LibraryMacro
cell_view m = in_library m.library.now (macro_view (m.name.now, m.cell.now))

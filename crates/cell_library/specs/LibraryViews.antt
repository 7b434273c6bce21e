-- The library of the program as that of the definitions.
use Rattle.std.specs.Prelude.{◌≡◌, ℕ, List, [], ◌∷◌, ◌++◌, Result, Ok, Err}
use Rattle.design_model.specs.declared.fault.ReadError.{ReadError}
use Rattle.design_model.specs.declared.fault.ReadError.TheVariants as read_errors
use Rattle.lef_grammar.specs.LefRecords.{LefRecord, outside, read_lef}
use Rattle.lef_grammar.specs.Library.{Library, with_text, library_of}
use Rattle.cell_library.specs.LayerViews.{layers_view}
use Rattle.cell_library.specs.MacroViews.{macros_view}
use Rattle.cell_library.specs.RuleViews.{rules_view}
use Rattle.cell_library.specs.SiteViews.{sites_view}
use Rattle.cell_library.specs.ViaViews.{vias_view}
use Rattle.cell_library.specs.declared.layer.Layer.{Layer}
use Rattle.cell_library.specs.declared.site.Site.{Site}
use Rattle.cell_library.specs.declared.via_definition.Via.{Via}
use Rattle.cell_library.specs.declared.rule.Rule.{Rule}
use Rattle.cell_library.specs.declared.macro_definition.Macro.{Macro}
use Rattle.cell_library.specs.declared.library.LibraryError.{LibraryError}
use Rattle.cell_library.specs.declared.library.LibraryError.TheVariants as library_errors

abbrev pub library_view : {A : Type 0} → List (List ℕ × Layer) → List (List ℕ × Site) → List (List ℕ × Via A) → List (List ℕ × Rule A) → List (List ℕ × Macro A) → Library
library_view layers sites vias rules macros = record { layers = layers_view layers; sites = sites_view sites; vias = vias_view vias; rules = rules_view rules; macros = macros_view macros }

-- a library and the statements from the last outside of all blocks on, after a statement
abbrev pub noted : LefRecord → Library × List LefRecord → Library × List LefRecord
noted (outside r) s = (with_text s.0 s.1, outside r ∷ [])
noted r s = (s.0, s.1 ++ r ∷ [])

-- what adding a text says; refused memory says nothing
abbrev pub AddsText : List ℕ → Library → Library → Result (Unit {0}) ReadError → Type 0
AddsText text old new (Ok u) = (recs : List LefRecord) × (read_lef text ≡ Ok recs) × (new ≡ with_text old recs)
AddsText text old new (Err (read_errors.Fault f)) = read_lef text ≡ Err f
AddsText text old new (Err read_errors.Memory) = Unit {0}

-- what reading the texts of a library says; refused memory says nothing
abbrev pub ReadsLibrary : List (List ℕ) → Result Library LibraryError → Type 0
ReadsLibrary texts (Ok l) = library_of texts ≡ Ok l
ReadsLibrary texts (Err (library_errors.Fault file fault)) = library_of texts ≡ Err (record { file = file; fault = fault })
ReadsLibrary texts (Err library_errors.Memory) = Unit {0}

-- Pins of macros by the names of both, and those that were found by them earlier.
use Rattle.std.specs.Prelude.{◌≡◌, ℕ, List, Option, Some}
use Rattle.std.specs.List.{All}
use Rattle.std.specs.Option.{option_map}
use Rattle.design_model.specs.Geometry.{spanned}
use Rattle.design_model.specs.Views.{rectangle_of}
use Rattle.form_meanings.specs.Words.{◌>>=◌}
use Rattle.lef_grammar.specs.Definitions.{Pin}
use Rattle.lef_grammar.specs.Library.{Library, Macro, macro_named, pin_named}
use Rattle.lef_grammar.specs.Measures.{point_or_0}
use Rattle.cell_library.specs.PinViews.{pin_view}
use Rattle.design_wires.specs.Scales.{units_of}
use Rattle.net_pins.specs.CellPlaces.{origin}
use Rattle.net_pins.specs.declared.cell_frame.CellFrame.{CellFrame}
use Rattle.net_pins.specs.declared.found_pin.FoundPin.{FoundPin}

-- the macro of a name, with its pin of a name
abbrev pub found_pin : Library → List ℕ → List ℕ → Option (Macro × Pin)
found_pin library cell name = macro_named library cell >>= λ (m : Macro). option_map (λ (p : Pin). (m, p)) (pin_named m name)

-- a macro in database units
pub record IsFrameOf (m : Macro) (f : CellFrame) : Type 0 where
  pub moves : f.origin ≡ point_or_0 (units_of f.scale) m.origin
  pub spans : rectangle_of f.boundary ≡ spanned origin (point_or_0 (units_of f.scale) m.size)

-- what a library has by two names, with so many database units per micron
pub record IsFound {A : Type 0} (library : Library) (cell name : List ℕ) (u : ℕ) (p : FoundPin A) : Type 0 where
  pub of : Macro
  pub is : found_pin library cell name ≡ Some (of, pin_view (p.name.now, p.pin.now))
  pub framed : IsFrameOf of p.frame
  pub scaled : units_of p.frame.scale ≡ u

-- by its own names it is found again
abbrev pub IsKept : {A : Type 0} → Library → FoundPin A → Type 0
IsKept library p = IsFound library p.cell.now p.name.now (units_of p.frame.scale) p

pub record AreKept {A : Type 0} (library : Library) (last : List (FoundPin A)) : Type 0 where
  pub each : All (IsKept library) last

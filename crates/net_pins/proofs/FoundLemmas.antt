-- Pins of macros by the names of both.
use Rattle.std.proofs.Common.{◌≡◌, ℕ, List, refl, sym, ap, ◌∙◌, Option, Some, None}
use Rattle.std.specs.Option.{option_map}
use Rattle.design_model.specs.Geometry.{spanned}
use Rattle.design_model.specs.Views.{rectangle_of}
use Rattle.form_meanings.specs.Words.{◌>>=◌}
use Rattle.lef_grammar.specs.Definitions.{Pin}
use Rattle.lef_grammar.specs.Library.{Library, Macro, macro_named, pin_named}
use Rattle.lef_grammar.specs.Measures.{point_or_0}
use Rattle.lef_grammar.specs.MacroShapes.{LibraryMacro, in_library}
use Rattle.cell_library.specs.PinViews.{pin_view}
use Rattle.design_wires.specs.Scales.{units_of}
use Rattle.net_pins.specs.CellPlaces.{origin}
use Rattle.net_pins.specs.FoundPins.{IsFound}
use Rattle.net_pins.specs.declared.found_pin.FoundPin.{FoundPin}
use Rattle.net_pins.proofs.UnseenLemmas.{named}

module _ (library : Library) where
  the_macro : (o : Option Macro) (v : LibraryMacro) → Some v ≡ option_map (in_library library) o → o ≡ Some v.cell
  the_macro None v e = let none : ⊥ = cc in absurd none
  the_macro (Some m) v e = let same : v ≡ in_library library m = cc in ap (λ (w : LibraryMacro). Some w.cell) (sym same)

  abbrev pin_in : List ℕ → Option Macro → Option (Macro × Pin)
  pin_in name o = o >>= λ (m : Macro). option_map (λ (p : Pin). (m, p)) (pin_named m name)

  -- a macro and a pin that were looked up one after the other
  pub looked_up : {A : Type 0} (cell name : List ℕ) (v : LibraryMacro) (u : ℕ) (p : FoundPin A)
      → Some v ≡ option_map (in_library library) (macro_named library cell) → Some (pin_view (p.name.now, p.pin.now)) ≡ pin_named v.cell name
      → units_of p.frame.scale ≡ u → p.frame.origin ≡ point_or_0 u v.cell.origin → rectangle_of p.frame.boundary ≡ spanned origin (point_or_0 u v.cell.size)
      → IsFound library cell name u p
  looked_up cell name v u p macro_is pin_is scaled moves spans = record {
    of = v.cell;
    is = ap (pin_in name) (the_macro (macro_named library cell) v macro_is) ∙ ap (option_map (λ (q : Pin). (v.cell, q))) (sym pin_is);
    framed = record { moves = moves ∙ ap (λ (w : ℕ). point_or_0 w v.cell.origin) (sym scaled); spans = spans ∙ ap (λ (w : ℕ). spanned origin (point_or_0 w v.cell.size)) (sym scaled) };
    scaled = scaled;
  }

  pub at_own_scale : {A : Type 0} (cell name : List ℕ) (u : ℕ) (p : FoundPin A) → IsFound library cell name u p → IsFound library cell name (units_of p.frame.scale) p
  at_own_scale cell name u p k = record { of = k.of; is = k.is; framed = k.framed; scaled = refl }

  -- what was found has the name that was looked for
  pub found_name : {A : Type 0} (cell name : List ℕ) (u : ℕ) (p : FoundPin A) → IsFound library cell name u p → p.name.now ≡ name
  found_name cell name u p k = of_macro (macro_named library cell) k.is
    where
      of_pin : (m : Macro) (o : Option Pin) → pin_named m name ≡ o → option_map {U = Macro × Pin} (λ (q : Pin). (m, q)) o ≡ Some (k.of, pin_view (p.name.now, p.pin.now)) → p.name.now ≡ name
      of_pin m None is found = cc
      of_pin m (Some q) is found =
          let pair : ◌≡◌ {A = Macro × Pin} (m, q) (k.of, pin_view (p.name.now, p.pin.now)) = cc in
          sym (ap (λ (t : Macro × Pin). t.1.name) pair) ∙ named (λ (d : Pin). d.name) m.pins name q is

      of_macro : (o : Option Macro) → pin_in name o ≡ Some (k.of, pin_view (p.name.now, p.pin.now)) → p.name.now ≡ name
      of_macro None found = cc
      of_macro (Some m) found = of_pin m (pin_named m name) refl found

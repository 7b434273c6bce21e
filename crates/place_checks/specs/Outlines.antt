-- What of macros makes the boxes of their components, by the names of these.
use Rattle.std.specs.Prelude.{◌≡◌, ◌≤◌, ◌<◌, ℕ, List, map, Option, Some, IfSome}
use Rattle.std.specs.List.{All}
use Rattle.std.specs.Option.{option_map}
use Rattle.design_model.specs.Views.{rectangle_of}
use Rattle.lef_grammar.specs.Library.{Library, Macro, macro_named}
use Rattle.lef_grammar.specs.Measures.{boundary_of}
use Rattle.lefdef_tokens.specs.Views.{word_view}
use Rattle.cell_library.specs.Numbers.{IsWithin}
use Rattle.place_checks.specs.Corners.{in_order}
use Rattle.place_checks.specs.declared.outline.Outline.{Outline}
use Rattle.place_checks.specs.declared.last_macros.FoundMacro.{FoundMacro}

-- a library, and how many database units a micron has
pub record Scaled : Type 0 where
  pub library : Library
  pub scale : ℕ

-- the boundary of a macro, with its corners in order and not too far away, its class and its sites
pub record IsOutline (u : ℕ) (m : Macro) (o : Outline) : Type 0 where
  pub boundary : rectangle_of o.boundary ≡ in_order (boundary_of u m.size)
  pub class : option_map word_view o.class ≡ m.class
  pub sites : map word_view o.sites.now ≡ m.sites
  pub small : IsWithin 100000000000 (rectangle_of o.boundary)

-- those of the macro that a library has by a name
pub record IsOutlineOf (library : Library) (u : ℕ) (name : List ℕ) (o : Outline) : Type 0 where
  pub of : Macro
  pub found : macro_named library name ≡ Some of
  pub outline : IsOutline u of o

-- each that is kept is of the name that it stands under
pub record KeepsMacros (library : Library) (u : ℕ) (slots : List (Option FoundMacro)) : Type 0 where
  pub each : All (λ o. IfSome o (λ f. IsOutlineOf library u f.name.now f.outline)) slots
  pub some : 0 < u
  pub few : u ≤ 100000

-- What wires and vias are made by: a library, the statements of a design, and how many database units a micron has.
use Rattle.std.specs.Prelude.{ℕ, List}
use Rattle.def_grammar.specs.Records.{Record}
use Rattle.lef_grammar.specs.Library.{Library}
use Rattle.design_rules.specs.Boxes.{scale}
use Rattle.design_wires.specs.Scales.{units_of}
use Rattle.design_wires.specs.declared.definitions.Definitions as code

pub record Defined : Type 0 where
  pub library : Library
  pub design : List Record
  pub units : ℕ

abbrev pub defined : {A : Type 0} → code.Definitions A → Defined
defined d = record { library = d.library.now; design = d.names.now; units = units_of d.scale }

-- the same of a design, whose UNITS say how many those are
pub record DefinedIn : Type 0 where
  pub library : Library
  pub design : List Record

abbrev pub with_units : DefinedIn → Defined
with_units d = record { library = d.library; design = d.design; units = scale d.design }

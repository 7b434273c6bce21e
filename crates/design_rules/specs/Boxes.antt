-- The components that take part in the place checks (own).
use Rattle.std.specs.Prelude.{ℕ, Bool, false, List, Option, Some, None, nat_abs, codes, if◌then◌else◌}
use Rattle.std.specs.List.{filter_map}
use Rattle.design_model.specs.declared.geometry.Orient.{Orient}
use Rattle.design_model.specs.declared.geometry.Status.TheVariants.{Placed, Fixed}
use Rattle.design_model.specs.Geometry.{Rectangle, placed_box}
use Rattle.form_meanings.specs.Words.{◌>>=◌, is_word, first}
use Rattle.def_grammar.specs.Numbers.{int_of}
use Rattle.def_grammar.specs.Parts.{Coordinates}
use Rattle.def_grammar.specs.Components.{Clause, placed, Component, region_of_clause}
use Rattle.def_grammar.specs.Records.{Record, component_of, units_of}
use Rattle.lef_grammar.specs.Measures.{boundary_of}
use Rattle.lef_grammar.specs.Library.{Macro, Library, macro_named}
use Rattle.def_grammar.specs.Placing.{placing}
use Rattle.form_meanings.specs.Firsts.{first_of}

-- database units per micron: those of UNITS
abbrev pub units_or_1 : Option (List ℕ) → ℕ
units_or_1 None = 1
units_or_1 (Some n) = nat_abs (int_of n)

abbrev pub scale : List Record → ℕ
scale design = units_or_1 (first (filter_map units_of design))

abbrev pub is_cover : Option (List ℕ) → Bool
is_cover None = false
is_cover (Some word) = is_word (codes "COVER") word

-- a component that takes part: its name, its box and how it is turned, the class and the sites of its macro, and the region
-- that it names itself
pub record Boxed : Type 0 where
  pub name : List ℕ
  pub box : Rectangle
  pub orient : Orient
  pub class : Option (List ℕ)
  pub sites : List (List ℕ)
  pub region : Option (List ℕ)

-- a component of a macro that is no cover
abbrev pub box_at : ℕ → Component → Coordinates → Orient → Macro → Option Boxed
box_at u c at o m =
    if is_cover m.class then None
    else Some (record {
      name = c.name;
      box = placed_box o (boundary_of u m.size) (record { x = int_of at.x; y = int_of at.y });
      orient = o;
      class = m.class;
      sites = m.sites;
      region = first_of region_of_clause c.clauses;
    })

-- a component takes part where it is PLACED or FIXED, and its macro is known and no cover
abbrev pub box_by : Library → ℕ → Component → Option Clause → Option Boxed
box_by library u c (Some (placed Placed at o)) = macro_named library c.cell >>= box_at u c at o
box_by library u c (Some (placed Fixed at o)) = macro_named library c.cell >>= box_at u c at o
box_by library u c _ = None

abbrev pub component_box : Library → ℕ → Component → Option Boxed
component_box library u c = box_by library u c (placing c.clauses)

abbrev pub box_of : Library → ℕ → Record → Option Boxed
box_of library u rec = component_of rec >>= component_box library u

abbrev pub boxes : Library → List Record → List Boxed
boxes library design = filter_map (box_of library (scale design)) design

-- Tables of vias by their names: the vias of a design and of its library, each with the layers that it joins and its shapes.
use Rattle.std.specs.Prelude.{◌≡◌, ℕ, Bool, true, ◌||◌, List, ◌++◌, map, is_some, None, IfSome, MatchOption}
use Rattle.std.specs.List.{list_any}
use Rattle.def_grammar.specs.DefVias.{DefVia}
use Rattle.def_grammar.specs.Records.{Record}
use Rattle.form_meanings.specs.Firsts.{has_name}
use Rattle.lef_grammar.specs.Library.{Via}
use Rattle.entry_rules.specs.ViaLayers.{def_vias, layers_named}
use Rattle.entry_checks.specs.JoinedLayers.{JoinsThose}
use Rattle.cell_library.specs.Naming.{named}
use Rattle.net_rules.specs.ViaRectangles.{via_shapes}
use Rattle.design_wires.specs.Defined.{Defined}
use Rattle.design_wires.specs.KnownShapes.{near_view}
use Rattle.design_wires.specs.declared.known_via.KnownVia.{KnownVia}

abbrev pub names_in_def : List Record → List (List ℕ)
names_in_def design = map (λ (v : DefVia). v.name) (def_vias design)

abbrev pub names_in_lef : List Via → List (List ℕ)
names_in_lef vias = map (λ (v : Via). v.name) vias

abbrev pub is_among : List ℕ → List (List ℕ) → Bool
is_among name names = list_any (has_name (λ n. n) name) names

module _ (d : Defined) where
  -- the layers and the shapes of the via of a name
  pub record IsVia {A : Type 0} (name : List ℕ) (v : KnownVia A) : Type 0 where
    pub joined : JoinsThose d.library v.joined (layers_named d.library d.design name)
    pub shapes : map near_view v.shapes ≡ via_shapes d.library d.design d.units name

  -- a table says of each name what is so, and a via of which it says nothing isn't known
  pub record HasVias {A : Type 0} (vias : List (List ℕ × KnownVia A)) : Type 0 where
    pub each : (name : List ℕ) → MatchOption (named vias name) (layers_named d.library d.design name ≡ None) (IsVia name)

  -- the same, where vias of some names aren't there yet
  pub record HasOthers {A : Type 0} (vias : List (List ℕ × KnownVia A)) (left : List (List ℕ)) : Type 0 where
    pub each : (name : List ℕ) → IfSome (named vias name) (IsVia name)
    pub all : (name : List ℕ) → is_some (layers_named d.library d.design name) ≡ true → (is_some (named vias name) || is_among name left) ≡ true

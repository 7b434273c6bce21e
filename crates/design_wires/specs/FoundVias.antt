-- The via of a name, which is looked up in DEF before LEF, and its shapes.
use Rattle.std.specs.Prelude.{ℕ, List, Option}
use Rattle.std.specs.Option.{option_map}
use Rattle.def_grammar.specs.DefVias.{DefVia}
use Rattle.def_grammar.specs.Records.{Record}
use Rattle.lef_grammar.specs.Definitions as lef
use Rattle.lef_grammar.specs.Library.{Library, via_named}
use Rattle.entry_rules.specs.ViaLayers.{def_via_named, or_lef}
use Rattle.net_rules.specs.ViaRectangles.{body_shapes, def_via_shapes}
use Rattle.wire_rules.specs.ViaShapes.{NamedShape}
use Rattle.via_parts.specs.ViaViews.{via_view}
use Rattle.cell_library.specs.ViaViews.{body_view}
use Rattle.design_wires.specs.declared.via_view.ViaView.{ViaView}
use Rattle.design_wires.specs.declared.via_view.ViaView.TheVariants.{Def, Lef}

-- a via of DEF, or the body of one of LEF
pub data FoundVia : Type 0 where
  in_def : DefVia → FoundVia
  in_lef : lef.ViaBody → FoundVia

abbrev pub found_view : {A : Type 0} → ViaView A → FoundVia
found_view (Def parts) = in_def (via_view parts.now)
found_view (Lef via) = in_lef (body_view via.now.body)

abbrev pub via_found : Library → List Record → List ℕ → Option FoundVia
via_found library design name =
    or_lef (option_map in_def (def_via_named design name)) (option_map (λ (v : lef.Via). in_lef v.body) (via_named library name))

abbrev pub shapes_of : ℕ → FoundVia → List NamedShape
shapes_of u (in_def v) = def_via_shapes v
shapes_of u (in_lef body) = body_shapes u body

-- Vias of the program as those of the definitions.
use Rattle.std.specs.Prelude.{ℕ, ℤ, Bool, List, [], map, unwrap_or}
use Rattle.std.specs.Option.{is_some, option_map}
use Rattle.form_meanings.specs.Firsts.{first_of}
use Rattle.lef_grammar.specs.Definitions.{Distances, GeneratedVia, Via, ViaBody, listed, generated, generated_by, via_body}
use Rattle.lef_grammar.specs.ViaBlock.{ViaRecord, rule_of}
use Rattle.cell_library.specs.Numbers.{point_view}
use Rattle.cell_library.specs.ShapeViews.{shapes_view}
use Rattle.cell_library.specs.declared.via.CutArray.{CutArray}
use Rattle.cell_library.specs.declared.via.LayerNames.{LayerNames}
use Rattle.cell_library.specs.declared.via.MetalPoints.{MetalPoints}
use Rattle.cell_library.specs.declared.via.GeneratedVia as code_generated
use Rattle.cell_library.specs.declared.via.Generation.{Generation}
use Rattle.cell_library.specs.declared.via.ViaBody as code_body
use Rattle.cell_library.specs.declared.via.ViaBody.TheVariants as bodies
use Rattle.cell_library.specs.declared.via_definition.Via as code_via

abbrev pub array_view : CutArray → ℤ × ℤ
array_view a = (a.rows, a.columns)

abbrev pub names_view : LayerNames → List ℕ × (List ℕ × List ℕ)
names_view n = (n.bottom.now, (n.cut.now, n.top.now))

abbrev pub metals_view : MetalPoints → Distances × Distances
metals_view m = (point_view m.bottom, point_view m.top)

abbrev pub generated_view : code_generated.GeneratedVia → GeneratedVia
generated_view v = record {
  rule = v.rule.now;
  cut_size = option_map point_view v.cut_size;
  cut_spacing = option_map point_view v.cut_spacing;
  row_col = option_map array_view v.row_col;
  layers = option_map names_view v.layers;
  enclosure = option_map metals_view v.enclosure;
  origin = option_map point_view v.origin;
  offset = option_map metals_view v.offset;
}

abbrev pub body_view : {A : Type 0} → code_body.ViaBody A → ViaBody
body_view (bodies.Listed shapes) = listed (map shapes_view shapes)
body_view (bodies.Generated v) = generated (generated_view v)

abbrev pub via_name : Via → List ℕ
via_name v = v.name

abbrev pub via_view : {A : Type 0} → List ℕ × code_via.Via A → Via
via_view e = record { name = e.0; body = body_view e.1.body; unchecked = e.1.unchecked }

abbrev pub vias_view : {A : Type 0} → List (List ℕ × code_via.Via A) → List Via
vias_view es = map via_view es

-- what these say of how a via is generated, and whether by a rule
abbrev pub generated_said : List ViaRecord → Bool × GeneratedVia
generated_said rs = (is_some (first_of rule_of rs), generated_by (unwrap_or (first_of rule_of rs) []) rs)

abbrev pub generation_view : Generation → Bool × GeneratedVia
generation_view g = (g.has_rule, generated_view g.via)

abbrev pub body_said : List ViaRecord → ViaBody
body_said rs = via_body (first_of rule_of rs) rs

-- What is said of a generated via in the program, as what the definitions make a via of.
use Rattle.std.specs.Prelude.{ℤ, pos, Option, IfSome}
use Rattle.std.specs.Option.{option_map}
use Rattle.cell_library.specs.ViaViews.{array_view, names_view}
use Rattle.net_rules.specs.ViaRectangles.{Metals, generated_of, origin}
use Rattle.design_model.specs.Ranges.{IsPointWithin}
use Rattle.wire_rules.specs.ViaShapes.{GeneratedVia}
use Rattle.design_wires.specs.declared.via_plan.Metals as code_metals
use Rattle.design_wires.specs.declared.via_plan.ViaPlan.{ViaPlan}

abbrev pub metals_view : code_metals.Metals → Metals
metals_view m = (m.bottom, m.top)

abbrev pub one_cut : ℤ × ℤ
one_cut = (pos 1, pos 1)

abbrev pub no_metals : Metals
no_metals = (origin, origin)

abbrev pub plan_view : ViaPlan → Option GeneratedVia
plan_view p =
    generated_of p.cut_size (option_map names_view p.layers) p.cut_spacing (option_map metals_view p.enclosure) (option_map array_view p.array)
    p.origin (option_map metals_view p.offset)

pub record AreNear (m : code_metals.Metals) : Type 0 where
  pub bottom : IsPointWithin 100000000000 m.bottom
  pub top : IsPointWithin 100000000000 m.top

-- its numbers are as large as the grammar of DEF and LEF lets them be
pub record IsPlan (p : ViaPlan) : Type 0 where
  pub cut_size : IfSome p.cut_size (IsPointWithin 100000000000)
  pub cut_spacing : IfSome p.cut_spacing (IsPointWithin 100000000000)
  pub enclosure : IfSome p.enclosure AreNear
  pub at : IfSome p.origin (IsPointWithin 100000000000)
  pub offset : IfSome p.offset AreNear

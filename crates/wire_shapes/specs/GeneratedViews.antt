-- Generated vias in the program as those of the definitions.
use Rattle.std.specs.Prelude.{ℕ, ◌<◌, ◌≤◌, pos}
use Rattle.design_model.specs.Ranges.{IsPointWithin, IsSize}
use Rattle.wire_rules.specs.ViaShapes.{GeneratedVia}
use Rattle.wire_shapes.specs.declared.generated.GeneratedVia as code

abbrev pub generated_view : code.GeneratedVia → GeneratedVia
generated_view v = record {
  bottom = v.bottom.now;
  cut = v.cut.now;
  top = v.top.now;
  cut_size = v.cut_size;
  cut_spacing = v.cut_spacing;
  rows = pos v.rows;
  columns = pos v.columns;
  bottom_enclosure = v.bottom_enclosure;
  top_enclosure = v.top_enclosure;
  bottom_offset = v.bottom_offset;
  top_offset = v.top_offset;
  origin = v.origin;
}

-- 1 to 1000000 cuts in a line
abbrev pub IsCutCount : ℕ → Type 0
IsCutCount n = (0 < n) × (n ≤ 1000000)

-- its numbers are as large as the grammar of DEF and LEF lets them be
pub record IsGenerated (v : code.GeneratedVia) : Type 0 where
  pub rows : IsCutCount v.rows
  pub columns : IsCutCount v.columns
  pub cut_width : IsSize v.cut_size.x
  pub cut_height : IsSize v.cut_size.y
  pub space_across : IsSize v.cut_spacing.x
  pub space_along : IsSize v.cut_spacing.y
  pub bottom_enclosure : IsPointWithin 100000000000 v.bottom_enclosure
  pub top_enclosure : IsPointWithin 100000000000 v.top_enclosure
  pub bottom_offset : IsPointWithin 100000000000 v.bottom_offset
  pub top_offset : IsPointWithin 100000000000 v.top_offset
  pub origin : IsPointWithin 100000000000 v.origin

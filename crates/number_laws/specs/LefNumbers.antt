-- What the numbers of the records of a LEF text pass: each number-valued word the test that its form asks for there.
use Rattle.std.specs.Prelude.{ℕ, Bool, List}
use Rattle.lef_grammar.specs.Extents.{is_distance, is_extent, is_array_count, Point, coordinates, Corners, masked, unmasked}
use Rattle.lef_grammar.specs.LayerBlock.{LayerRecord, layer_width, layer_spacing}
use Rattle.lef_grammar.specs.LefRecords.{LefRecord, in_layer, in_site, in_via, in_rule_layer, in_macro, in_port}
use Rattle.lef_grammar.specs.MacroBlock.{MacroRecord, size, origin}
use Rattle.lef_grammar.specs.PortBlock.{PortRecord, port_rect}
use Rattle.lef_grammar.specs.RuleBlock.{RuleLayerRecord, rule_width}
use Rattle.lef_grammar.specs.SiteBlock.{SiteRecord, site_size}
use Rattle.lef_grammar.specs.ViaBlock.{ViaRecord, via_rect, cut_size, cut_spacing, row_col, enclosure, via_origin, via_offset}
use Rattle.number_laws.specs.PartNumbers.{Passes}

-- x and y, or width and height
abbrev pub PairPasses : (List ℕ → Bool) → List ℕ × List ℕ → Type 0
PairPasses test p = Passes test p.0 × Passes test p.1

abbrev pub DistancesPass : Point → Type 0
DistancesPass p = PairPasses is_distance (coordinates p)

abbrev pub RectangleNumbers : Corners → Type 0
RectangleNumbers (masked mask a b) = DistancesPass a × DistancesPass b
RectangleNumbers (unmasked a b) = DistancesPass a × DistancesPass b

abbrev pub LayerNumbers : LayerRecord → Type 0
LayerNumbers (layer_width width ws) = Passes is_extent width
LayerNumbers (layer_spacing gap ws) = Passes is_distance gap
LayerNumbers _ = Unit {0}

abbrev pub SiteNumbers : SiteRecord → Type 0
SiteNumbers (site_size width height) = PairPasses is_extent (width, height)
SiteNumbers _ = Unit {0}

abbrev pub ViaNumbers : ViaRecord → Type 0
ViaNumbers (via_rect corners) = RectangleNumbers corners
ViaNumbers (cut_size x y) = PairPasses is_extent (x, y)
ViaNumbers (cut_spacing x y) = PairPasses is_extent (x, y)
ViaNumbers (row_col rows columns) = PairPasses is_array_count (rows, columns)
ViaNumbers (enclosure xb yb xt yt) = PairPasses is_distance (xb, yb) × PairPasses is_distance (xt, yt)
ViaNumbers (via_origin x y) = PairPasses is_distance (x, y)
ViaNumbers (via_offset xb yb xt yt) = PairPasses is_distance (xb, yb) × PairPasses is_distance (xt, yt)
ViaNumbers _ = Unit {0}

abbrev pub RuleLayerNumbers : RuleLayerRecord → Type 0
RuleLayerNumbers (rule_width width) = Passes is_extent width
RuleLayerNumbers _ = Unit {0}

abbrev pub MacroNumbers : MacroRecord → Type 0
MacroNumbers (size width height) = PairPasses is_extent (width, height)
MacroNumbers (origin p) = DistancesPass p
MacroNumbers _ = Unit {0}

abbrev pub PortNumbers : PortRecord → Type 0
PortNumbers (port_rect corners) = RectangleNumbers corners
PortNumbers _ = Unit {0}

-- in the other blocks no form asks for a number
abbrev pub LefRecordNumbers : LefRecord → Type 0
LefRecordNumbers (in_layer r) = LayerNumbers r
LefRecordNumbers (in_site r) = SiteNumbers r
LefRecordNumbers (in_via r) = ViaNumbers r
LefRecordNumbers (in_rule_layer r) = RuleLayerNumbers r
LefRecordNumbers (in_macro r) = MacroNumbers r
LefRecordNumbers (in_port r) = PortNumbers r
LefRecordNumbers _ = Unit {0}

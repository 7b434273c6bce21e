-- The via that a plan makes is the one of the definitions.
use Rattle.std.proofs.Common.{◌≡◌, ℕ, ℤ, pos, Some, FitsSigned, w32, refl, ap, ◌∙◌, arith}
use Rattle.std.proofs.lemmas.Int.{ints}
use mir.Val.{of_z, to_z}
use Rattle.std.specs.Option.{option_map}
use Rattle.design_model.specs.declared.geometry.Point.{Point}
use Rattle.cell_library.specs.ViaViews.{array_view}
use Rattle.cell_library.specs.declared.via.CutArray.{CutArray}
use Rattle.cell_library.specs.declared.via.LayerNames.{LayerNames}
use Rattle.net_rules.specs.ViaRectangles.{or_else, origin}
use Rattle.wire_rules.specs.Sizes.{as_cuts, as_sizes}
use Rattle.wire_shapes.specs.GeneratedViews.{generated_view}
use Rattle.design_wires.specs.PlanViews.{metals_view, no_metals, one_cut, plan_view}
use Rattle.design_wires.specs.declared.via_plan.Metals.{Metals}
use Rattle.design_wires.specs.declared.via_plan.ViaPlan.{ViaPlan}

pub made : (p : ViaPlan) (size space at s t : Point) (layers : LayerNames) (by offset : Metals) (array : CutArray) (rows columns : ℕ)
    → p.cut_size ≡ Some size → p.layers ≡ Some layers → p.cut_spacing ≡ Some space → p.enclosure ≡ Some by
    → array_view array ≡ or_else one_cut (option_map array_view p.array) → metals_view offset ≡ or_else no_metals (option_map metals_view p.offset)
    → s ≡ as_sizes size → t ≡ as_sizes space → pos rows ≡ as_cuts array.rows → pos columns ≡ as_cuts array.columns → at ≡ or_else origin p.origin
    → Some (generated_view (record {
      bottom = layers.bottom;
      cut = layers.cut;
      top = layers.top;
      cut_size = s;
      cut_spacing = t;
      rows = rows;
      columns = columns;
      bottom_enclosure = by.bottom;
      top_enclosure = by.top;
      bottom_offset = offset.bottom;
      top_offset = offset.top;
      origin = at;
    })) ≡ plan_view p
made p size space at s t layers by offset array rows columns a b c d e f g h i j k = rw (a, b, c, d, ← e, ← f, g, h, i, j, k) refl

-- a number as a word, which it fits
pub cuts_are : (n : ℕ) (z : ℤ) → FitsSigned w32 z → pos n ≡ as_cuts (to_z w32 (of_z w32 z)) → pos n ≡ as_cuts z
cuts_are n z f e =
    let back : to_z w32 (of_z w32 z) ≡ z = omega (arith, ints, f.sfits) in
    e ∙ ap as_cuts back

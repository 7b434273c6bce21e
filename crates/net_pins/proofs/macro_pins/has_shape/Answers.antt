use Rattle.std.proofs.Common.{◌+◌, drop, ap, map, ◌∙◌}
use Rattle.cell_library.proofs.AddingLemmas.{split_at}
use Rattle.cell_library.specs.ShapeViews.{shapes_view}
use Rattle.net_pins.proofs.MacroLemmas.{none_here, some_here}
use Rattle.net_pins.proofs.macro_pins.has_shape.Goals as goal

pub returns-then-layer_has_shape-clause-value : goal.returns-then-layer_has_shape-clause-value
returns-then-layer_has_shape-clause-value g c = λ u o.
    let i = c.loop-layer.layer-index in
    let shapes = c.args.shapes.now in
    let there = split_at shapes i c.layer-item.result c.loop-layer-test.true c.layer-item.is in
    some_here u o c.args.layers.now.layers (map shapes_view (drop i shapes)) (map shapes_view (drop (i + 1) shapes)) (shapes_view c.layer-item.result) c.layer_has_shape.result _
    (ap (map shapes_view) there) (c.loop-layer.invariant.left u o) (rw (c.loop-layer.invariant.same) at (c.layer_has_shape.ensures.value u o)) c.if-layer_has_shape.true

pub loop-layer-preserved : goal.loop-layer-preserved
loop-layer-preserved g c =
    let i = c.loop-layer.layer-index in
    let shapes = c.args.shapes.now in
    let there = split_at shapes i c.layer-item.result c.loop-layer-test.true c.layer-item.is in
    record {
      same = c.layer_has_shape.ensures.same ∙ c.loop-layer.invariant.same;
      left = λ u o.
          none_here u o c.args.layers.now.layers (map shapes_view (drop i shapes)) (map shapes_view (drop (i + 1) shapes)) (shapes_view c.layer-item.result) c.layer_has_shape.result _
          (ap (map shapes_view) there) (c.loop-layer.invariant.left u o) (rw (c.loop-layer.invariant.same) at (c.layer_has_shape.ensures.value u o)) c.if-layer_has_shape.false;
    }

use Rattle.std.proofs.Common.{◌+◌, drop, ap, ◌∙◌, map}
use Rattle.cell_library.proofs.AddingLemmas.{split_at}
use Rattle.cell_library.specs.ShapeViews.{shapes_view}
use Rattle.net_pins.specs.MacroPins.{all_placed, layer_placed}
use Rattle.net_pins.proofs.PutLemmas.{more_put}
use Rattle.net_pins.proofs.macro_pins.put_shapes.Goals as goal

pub loop-layer-preserved : goal.loop-layer-preserved
loop-layer-preserved g c =
    let i = c.loop-layer.layer-index in
    let layers = c.args.layers.now.layers in
    let same = c.loop-layer.invariant.same in
    let there = split_at c.args.shapes.now i c.layer-item.result c.loop-layer-test.true c.layer-item.is in
    record {
      same = c.in-Ok.ensures.same ∙ same;
      puts =
          more_put (layer_placed c.args.place layers (shapes_view c.layer-item.result)) (all_placed c.args.place layers (map shapes_view (drop (i + 1) c.args.shapes.now)))
          (ap (λ ss. all_placed c.args.place layers (map shapes_view ss)) there) c.loop-layer.invariant.puts (rw same at c.in-Ok.ensures.ok) c.in-Ok.ensures.part;
    }

use Rattle.std.proofs.Common.{◌≡◌, drop, map}
use Rattle.cell_library.specs.ShapeViews.{shapes_view}
use Rattle.net_pins.specs.MacroPins.{all_placed}
use Rattle.net_pins.specs.Putting.{Puts}
use Rattle.net_pins.proofs.macro_pins.put_shapes.Given as goal

abbrev pub invariant-loop-layer : goal.invariant-loop-layer
invariant-loop-layer g l = record {
  same : l.layers ≡ l.initial.layers;
  puts :
      Puts (all_placed l.place l.initial.layers.layers (map shapes_view l.shapes)) l.initial.nets (all_placed l.place l.initial.layers.layers (map shapes_view (drop l.layer-index l.shapes))) l.nets;
}

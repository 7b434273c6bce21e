use Rattle.std.proofs.Common.{◌≡◌, ℕ, drop, map}
use Rattle.design_model.specs.declared.geometry.Point.{Point}
use Rattle.connection_rules.specs.Terminals.{is_some_shape}
use Rattle.cell_library.specs.ShapeViews.{shapes_view}
use Rattle.net_pins.specs.MacroPins.{all_checked}
use Rattle.net_pins.proofs.macro_pins.has_shape.Given as goal

abbrev pub invariant-loop-layer : goal.invariant-loop-layer
invariant-loop-layer g l = record {
  same : l.layers ≡ l.initial.layers;
  left :
      (u : ℕ) (o : Point) → is_some_shape (all_checked u o l.initial.layers.layers (map shapes_view (drop l.layer-index l.shapes))) ≡ is_some_shape (all_checked u o l.initial.layers.layers (map shapes_view l.shapes));
}

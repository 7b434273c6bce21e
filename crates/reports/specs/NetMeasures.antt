-- What is measured of one net.
use Rattle.std.specs.Prelude.{◌≡◌, ℕ, List, Option, map}
use Rattle.design_model.specs.Geometry.{Rectangle}
use Rattle.lef_grammar.specs.Measures.{Shape}
use Rattle.connection_rules.specs.NetLines.{NetShape, shapes_of_net}
use Rattle.connection_rules.specs.NetParts.{Net}
use Rattle.measure_rules.specs.NetBoxes.{box_round, rectangles_of}

-- of a net that is so long: its length, its shapes, and the box round these
pub record AreOfNet (n : Net) (long net_length : ℕ) (shapes : List Shape) (bounds : Option Rectangle) : Type 0 where
  pub length_is : net_length ≡ long
  pub shapes_are : shapes ≡ map (λ (s : NetShape). s.shape) (shapes_of_net n)
  pub bounds_are : bounds ≡ box_round (rectangles_of n)

-- A shape and the head of its net as a shape of the definitions.
use Rattle.std.specs.Prelude.{Bool}
use Rattle.connection_rules.specs.NetLines as net_lines
use Rattle.net_lists.specs.PartCuts as cuts
use Rattle.net_lists.specs.declared.parts.NetHead.{NetHead}
use Rattle.net_lists.specs.declared.parts.NetShape.{NetShape}
use Rattle.net_touches.specs.declared.shape.ShapeOfNet.{ShapeOfNet}

abbrev pub net_shape : NetShape → NetHead → Bool → net_lines.NetShape
net_shape s h is_drawn = record { net = h.name.now; is_power = h.is_power; is_drawn = is_drawn; shape = cuts.shape_view s }

abbrev pub shape_view : ShapeOfNet → net_lines.NetShape
shape_view s = net_shape s.shape.now s.head.now s.is_drawn

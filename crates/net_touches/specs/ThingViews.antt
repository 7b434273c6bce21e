-- Things of the program as those of the definitions, and what is seen of them in a list of rectangles.
use Rattle.std.specs.Prelude.{true, false, List, Option, Some, slice_get}
use Rattle.design_model.specs.Geometry.{Rectangle}
use Rattle.design_model.specs.Views.{rectangle_of}
use Rattle.shape_pairs.specs.declared.pairs.Numbered.{Numbered}
use Rattle.net_touches.specs.declared.thing.Thing.{Thing}
use Rattle.net_touches.specs.declared.thing.Thing.TheVariants.{Drawn, Pin, Barrier}
use Rattle.net_touches.specs.Barriers.{barrier_view}
use Rattle.net_touches.specs.ShapeViews.{net_shape}
use Rattle.net_touches.specs.Things as things
use Rattle.net_touches.specs.Things.{barrier, box_of, shape_of_net}

abbrev pub thing_view : Thing → things.Thing
thing_view (Drawn s h) = shape_of_net (net_shape s.now h.now true)
thing_view (Pin s h) = shape_of_net (net_shape s.now h.now false)
thing_view (Barrier b) = barrier (barrier_view b.now)

abbrev pub seen : things.Thing → Option things.Thing × Rectangle
seen x = (Some x, box_of x)

-- the thing whose place a rectangle has, and the rectangle
abbrev pub seen_at : List things.Thing → Numbered → Option things.Thing × Rectangle
seen_at xs n = (slice_get xs n.id, rectangle_of n.rect)

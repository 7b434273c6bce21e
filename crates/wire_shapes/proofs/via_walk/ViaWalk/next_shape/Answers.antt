use Rattle.wire_shapes.specs.ItemViews.{via_use_view}
use Rattle.wire_shapes.specs.PlacesLeft.{places_left}
use Rattle.wire_shapes.proofs.ViaSteps.{none_there}
use Rattle.wire_shapes.proofs.via_walk.ViaWalk.next_shape.Goals as goal

pub returns-in_err-shape-clause-gives : goal.returns-in_err-shape-clause-gives
returns-in_err-shape-clause-gives g c =
    let w = c.args.self.now in
    let shapes = g.S.LayerShapes.shapes in
    let u = via_use_view w.via in
    rw (c.from_residual-in_err-shape.ensures) (
      none_there u (shapes w.all) (shapes w.left) w.at w.is_first (places_left w.places) c.in_default.ensures.0 c.in_err-shape.ensures.0,
      none_there u (shapes w.all) (shapes c.next-3.new.self) c.in_ok-self.field-0 w.is_first (places_left c.next-2.new.self) c.in_err-shape.ensures.1 c.in_err-shape.ensures.0,
    )

use Rattle.shape_index.proofs.OrderChanges.{after_growth}
use Rattle.shape_index.proofs.tiled.TiledShapesShapeSet.reserve.Goals as goal

pub invariant_of-self : goal.invariant_of-self
invariant_of-self g c = after_growth c.self.inside.shapes c.reserve.new.self _ _ c.reserve.ensures.rest_kept c.self.invariant

pub invariant_of-self-2 : goal.invariant_of-self-2
invariant_of-self-2 g c = c.make_room.ensures.same c.reserve.new.self (after_growth c.self.inside.shapes c.reserve.new.self c.self.inside.order.items _ c.reserve.ensures.rest_kept c.self.invariant)

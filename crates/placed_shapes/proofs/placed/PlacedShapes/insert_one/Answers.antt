use Rattle.placed_shapes.proofs.PlacedLists.{one_more}
use Rattle.placed_shapes.proofs.placed.PlacedShapes.insert_one.Goals as goal

pub returns-clause-put : goal.returns-clause-put
returns-clause-put g c =
    rw (← c.self.view_is)
    (one_more c.args.place c.args.shape.now c.self.inside.tiles.entries c.reserve.new.self.entries c.insert_reserved.new.self.entries c.insert_reserved.result c.stored.result c.stored.ensures c.in_ok-reserve.ensures.same c.insert_reserved.ensures.added)

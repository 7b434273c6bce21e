use Rattle.placed_shapes.proofs.PlacedLists.{one_less}
use Rattle.placed_shapes.proofs.placed.PlacedShapes.remove_one.Goals as goal

pub returns-clause-removed : goal.returns-clause-removed
returns-clause-removed g c = λ h.
    rw (← c.self.view_is)
    (one_less c.args.place c.args.shape.now c.self.inside.tiles.entries c.remove.new.self.entries c.in-Some.id c.remove.result c.stored.result c.stored.ensures c.remove.ensures.value c.remove.ensures.removed c.in-Some.ensures.found)

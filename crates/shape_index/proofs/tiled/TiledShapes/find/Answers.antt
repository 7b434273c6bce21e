use Rattle.shape_index.proofs.Finding.{found_same, none_same}
use Rattle.shape_index.proofs.tiled.TiledShapes.find.Goals as goal

pub returns-clause-found : goal.returns-clause-found
returns-clause-found g c = rw (← c.self.view_is) (found_same c.self.inside.shapes c.self.inside.order.items c.args.shape _ (rw c.deref.ensures.value at c.find_same.ensures.found))

pub returns-clause-absent : goal.returns-clause-absent
returns-clause-absent g c = rw (← c.self.view_is) (none_same c.self.inside.shapes c.self.inside.order.items c.args.shape _ c.self.invariant (rw c.deref.ensures.value at c.find_same.ensures.absent))

use Rattle.named_shapes.proofs.NamedLists.{owned_are_named}
use Rattle.named_shapes.proofs.NearShapes.{met_entries, near_entries}
use Rattle.named_shapes.proofs.shapes.NamedShapes.put_shorts_of.Goals as goal

pub returns-clause-lines : goal.returns-clause-lines
returns-clause-lines g c = rw (← c.self.view_is, ← c.tiles.ensures, ← owned_are_named c.self.inside.names c.tiles.result.now.entries) c.put_touching.ensures.lines

pub returns-clause-tests : goal.returns-clause-tests
returns-clause-tests g c =
    let have = rw (← c.tiles.ensures) at c.self.invariant in
    rw (← c.self.view_is, ← c.tiles.ensures, ← near_entries c.self.inside.names c.args.shape.now c.tiles.result.now.entries have) c.put_touching.ensures.tests

pub returns-clause-least : goal.returns-clause-least
returns-clause-least g c =
    let have = rw (← c.tiles.ensures) at c.self.invariant in
    rw (← c.self.view_is, ← c.tiles.ensures, ← met_entries c.self.inside.names c.args.shape.now c.tiles.result.now.entries have) c.put_touching.ensures.least

use Rattle.placed_shapes.proofs.PlacedLists.{made_placed}
use Rattle.placed_shapes.proofs.placed.PlacedShapes.of.Goals as goal

pub returns : goal.returns
returns g c = made_placed c.in_ok-of.field-0.entries c.args.shapes.now c.in_ok-of.ensures

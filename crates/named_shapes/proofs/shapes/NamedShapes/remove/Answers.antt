use Rattle.std.proofs.Common.{take}
use Rattle.placed_shapes.specs.Placed.{at_place}
use Rattle.named_shapes.proofs.NamedLists.{apart, have_left}
use Rattle.named_shapes.proofs.shapes.NamedShapes.remove.Goals as goal

pub invariant_of-self : goal.invariant_of-self
invariant_of-self g c =
    let part = c.remove.ensures.part in
    have_left c.self.inside.names (at_place c.in-Some.place (take part.0 c.args.shapes.now)) c.self.inside.placed c.remove.new.self part.1 c.self.invariant

pub returns : goal.returns
returns g c = λ h.
    rw (← c.self.view_is) (apart c.self.inside.names c.in-Some.place c.args.net.now c.args.shapes.now c.self.inside.placed c.remove.new.self c.in-Some.ensures (c.remove.ensures.removed h))

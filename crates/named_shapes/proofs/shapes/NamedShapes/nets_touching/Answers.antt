use Rattle.std.proofs.Common.{map}
use Rattle.net_lists.specs.PartCuts.{shape_view}
use Rattle.named_shapes.proofs.NearShapes.{plain_named}
use Rattle.named_shapes.proofs.TouchingLemmas.{all_found}
use Rattle.named_shapes.proofs.shapes.NamedShapes.nets_touching.Goals as goal

pub returns-clause-all : goal.returns-clause-all
returns-clause-all g c =
    let touched = c.in_ok-places in
    rw (← c.self.view_is)
    (all_found c.self.inside.names c.in_ok-names.names.items (map shape_view c.args.shapes.now) c.self.inside.placed touched.field-0.places.items c.in-Some.once.items touched.ensures.places
    (λ test none. rw (c.deref.ensures.value) at (rw (c.in-Some.is) at c.in_ok-once.ensures test none))
    (rw (c.deref-2.ensures.value) at c.in_ok-names.ensures))

pub returns-clause-tests : goal.returns-clause-tests
returns-clause-tests g c = rw (← c.self.view_is, ← plain_named c.self.inside.names c.self.inside.placed c.self.invariant) c.in_ok-places.ensures.tests

pub returns-clause-least : goal.returns-clause-least
returns-clause-least g c = rw (← c.self.view_is, ← plain_named c.self.inside.names c.self.inside.placed c.self.invariant) c.in_ok-places.ensures.least

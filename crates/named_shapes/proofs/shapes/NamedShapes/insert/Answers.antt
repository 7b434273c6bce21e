use Rattle.std.proofs.Common.{sym, take}
use Rattle.named_shapes.proofs.NamedLists.{have_put, have_with_more, put_in}
use Rattle.named_shapes.proofs.shapes.NamedShapes.insert.Goals as goal

pub invariant_of-self : goal.invariant_of-self
invariant_of-self g c = let stay = c.put.ensures.stay in rw (stay.1) (have_with_more c.self.inside.names stay.0 c.self.inside.placed c.self.invariant)

pub invariant_of-self-2 : goal.invariant_of-self-2
invariant_of-self-2 g c =
    let stay = c.put.ensures.stay in
    let part = c.insert.ensures.part in
    let have = have_with_more c.self.inside.names stay.0 c.self.inside.placed c.self.invariant in
    have_put c.put.new.self c.in_ok-place.place c.args.net.now (take part.0 c.args.shapes.now) c.insert.new.self c.self.inside.placed c.in_ok-place.ensures.place part.1 (rw (stay.1) have)

pub returns : goal.returns
returns g c =
    let stay = c.put.ensures.stay in
    put_in c.insert.result c.self.inside.names stay.0 c.put.new.self c.in_ok-place.place c.args.net.now c.args.shapes.now c.self.inside.placed c.insert.new.self c.args.self.now (sym c.self.view_is)
    c.self.invariant
    stay.1
    c.in_ok-place.ensures.place
    c.insert.ensures.put

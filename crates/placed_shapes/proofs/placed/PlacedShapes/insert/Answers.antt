use Rattle.std.proofs.Common.{rules, ◌≡◌, ◌≤◌, length}
use Rattle.placed_shapes.proofs.PlacedLists.{all_of, next_put}
use Rattle.placed_shapes.proofs.placed.PlacedShapes.insert.Goals as goal

pub loop-shape-preserved : goal.loop-shape-preserved
loop-shape-preserved g c =
    next_put c.args.place c.args.shapes.now c.loop-shape.shape-index c.shape-item.result c.args.self.now c.loop-shape.self c.insert_one.new.self c.loop-shape-test.true c.shape-item.is c.loop-shape.invariant c.in_ok-insert_one.ensures.put

pub returns-clause-put : goal.returns-clause-put
returns-clause-put g c =
    let past : length c.args.shapes.now ≤ c.loop-shape.shape-index = search rules in
    all_of c.args.place c.args.shapes.now c.loop-shape.shape-index c.loop-shape.self c.args.self.now past c.loop-shape.invariant

pub returns-clause-part : goal.returns-clause-part
returns-clause-part g c = (c.loop-shape.shape-index, c.loop-shape.invariant)

pub returns-in_err-insert_one-clause-part : goal.returns-in_err-insert_one-clause-part
returns-in_err-insert_one-clause-part g c =
    let same : c.insert_one.new.self ≡ c.loop-shape.self = search rules in
    (c.loop-shape.shape-index, rw same c.loop-shape.invariant)

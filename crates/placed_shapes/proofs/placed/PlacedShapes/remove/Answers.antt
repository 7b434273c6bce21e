use Rattle.std.proofs.Common.{rules, ◌≡◌, ◌≤◌, ◌∷◌, length}
use Rattle.line_laws.specs.Lines.{SameThings}
use Rattle.net_lists.specs.PartCuts.{shape_view}
use Rattle.placed_shapes.proofs.PlacedLists.{all_of, next_taken}
use Rattle.placed_shapes.proofs.placed.PlacedShapes.remove.Goals as goal

pub loop-shape-preserved : goal.loop-shape-preserved
loop-shape-preserved g c =
    let gone : SameThings c.loop-shape.self ((c.args.place, shape_view c.shape-item.result) ∷ c.remove_one.new.self) = search rules in
    next_taken c.args.place c.args.shapes.now c.loop-shape.shape-index c.shape-item.result c.args.self.now c.loop-shape.self c.remove_one.new.self c.loop-shape-test.true c.shape-item.is c.loop-shape.invariant gone

pub returns-then-not-remove_one-clause-part : goal.returns-then-not-remove_one-clause-part
returns-then-not-remove_one-clause-part g c =
    let same : c.remove_one.new.self ≡ c.loop-shape.self = search rules in
    (c.loop-shape.shape-index, rw same c.loop-shape.invariant)

pub returns-clause-removed : goal.returns-clause-removed
returns-clause-removed g c = λ h.
    let past : length c.args.shapes.now ≤ c.loop-shape.shape-index = search rules in
    all_of c.args.place c.args.shapes.now c.loop-shape.shape-index c.args.self.now c.loop-shape.self past c.loop-shape.invariant

pub returns-clause-part : goal.returns-clause-part
returns-clause-part g c = (c.loop-shape.shape-index, c.loop-shape.invariant)

use Rattle.std.proofs.Common.{arith, ap, ◌∙◌}
use Rattle.std.proofs.lemmas.Int.{ints}
use Rattle.design_model.specs.Geometry.{moved}
use Rattle.design_model.specs.Views.{rectangle_of}
use Rattle.cell_library.proofs.UnitLemmas.{moved_there, near_moved}
use Rattle.cell_library.proofs.placing.Placing.place.Goals as goal

pub invariant_of-result : goal.invariant_of-result
invariant_of-result c =
    let r = c.in_units-rect.result in
    let b = c.in_units-rect.ensures.bound in
    record {
      wide = omega (arith, ints, b.x1, b.x2, c.args.self.near, r.wide);
      high = omega (arith, ints, b.y1, b.y2, c.args.self.low, r.high);
    }

pub returns-clause-is : goal.returns-clause-is
returns-clause-is c =
    let r = rectangle_of c.in_units-rect.result in
    let b = c.in_units-rect.ensures.bound in
    let o = c.args.self.origin in
    moved_there r o.x o.y _ _ _ _
    (omega (arith, ints, b.x1, c.args.self.near)) (omega (arith, ints, b.y1, c.args.self.low))
    (omega (arith, ints, b.x2, c.args.self.near)) (omega (arith, ints, b.y2, c.args.self.low))
    ∙ ap (moved o.x o.y) c.in_units-rect.ensures.units

pub returns-clause-near : goal.returns-clause-near
returns-clause-near c =
    let r = rectangle_of c.in_units-rect.result in
    let b = c.in_units-rect.ensures.bound in
    let o = c.args.self.origin in
    near_moved r o.x o.y _ _ _ _ b c.args.self.near c.args.self.low
    (omega (arith, ints, b.x1, c.args.self.near)) (omega (arith, ints, b.y1, c.args.self.low))
    (omega (arith, ints, b.x2, c.args.self.near)) (omega (arith, ints, b.y2, c.args.self.low))

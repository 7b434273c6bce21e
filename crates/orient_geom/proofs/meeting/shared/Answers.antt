use Rattle.std.proofs.Common.{arith, ap}
use Rattle.std.proofs.lemmas.Int.{ints}
use Rattle.design_model.specs.declared.geometry.Point.{Point}
use Rattle.design_model.specs.Views.{rectangle_of}
use Rattle.orient_geom.proofs.SharedPoints.{bounds, shared_in_order}
use Rattle.orient_geom.proofs.meeting.shared.Goals as goal

pub invariant_of-result : goal.invariant_of-result
invariant_of-result c =
    let a = rectangle_of c.args.a.now in
    let b = rectangle_of c.args.b.now in
    let o = shared_in_order a b (record { wide = c.args.a.now.wide; high = c.args.a.now.high }) (record { wide = c.args.b.now.wide; high = c.args.b.now.high }) (bounds a b c.requires) in
    let wide = o.wide in
    let high = o.high in
    let x1 = ap (λ (p : Point). p.x) c.lower_left-lower.ensures in
    let y1 = ap (λ (p : Point). p.y) c.lower_left-lower.ensures in
    let x2 = ap (λ (p : Point). p.x) c.upper_right-upper.ensures in
    let y2 = ap (λ (p : Point). p.y) c.upper_right-upper.ensures in
    record { wide = omega (arith, ints, wide, x1, x2); high = omega (arith, ints, high, y1, y2) }

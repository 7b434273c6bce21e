use Rattle.std.proofs.Common.{◌<ℤ◌, ◌≤ℤ◌, map, arith, to_z, w64}
use Rattle.std.proofs.lemmas.Int.{ints, to_z-of_z}
use Rattle.design_model.specs.Views.{rectangle_of}
use Rattle.place_rules.specs.Covering.{HasSquare}
use Rattle.orient_geom.specs.Strips.{NoneHasSquare}
use Rattle.orient_geom.proofs.Squares.{gap_shrinks}
use Rattle.orient_geom.proofs.Strips.{strip_more, strip_end, strip_none}
use Rattle.orient_geom.proofs.covering.covered_to.Goals as goal

pub returns-in_err-rect : goal.returns-in_err-rect
returns-in_err-rect c =
    let left : c.args.area.now.x1 ≤ℤ to_z w64 c.loop-x.x-bits = c.loop-x.invariant.from in
    let square : HasSquare (rectangle_of c.args.area.now) (to_z w64 c.loop-x.x-bits) c.args.y = record { left = left; right = grind (arith, ints); below = c.requires.low; above = c.requires.high } in
    let none : NoneHasSquare (map rectangle_of c.args.list.now) (to_z w64 c.loop-x.x-bits) c.args.y = rw (to_z-of_z w64 c.args.y c.ranges.y) at c.in_err-rect.ensures in
    rw c.from_residual.ensures (strip_none _ _ _ _ none square)

pub loop-x-preserved : goal.loop-x-preserved
loop-x-preserved c =
    let has = c.in_ok-rect.ensures in
    let is = c.min-top.ensures.value in
    grind (arith, to_z-of_z, strip_more (rectangle_of c.args.area.now) (map rectangle_of c.args.list.now) _ _ _ _ c.loop-x.invariant has)

pub loop-x-smaller : goal.loop-x-smaller
loop-x-smaller c =
    let right : (to_z w64 c.loop-x.x-bits) <ℤ c.in_ok-rect.rect.now.x2 = c.in_ok-rect.ensures.square.right in
    grind (arith, ints, to_z-of_z, gap_shrinks)

pub returns : goal.returns
returns c =
    let up = rw (to_z-of_z w64 c.args.y c.ranges.y) at c.loop-x.invariant in
    strip_end _ _ _ _ _ up (grind (arith, ints))

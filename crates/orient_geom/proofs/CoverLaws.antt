-- The laws of covering.
use Rattle.std.proofs.Common.{◌≤ℤ◌, ◌<ℤ◌, arith, ⊎_elim}
use Rattle.std.proofs.lemmas.Int.{ints}
use Rattle.orient_geom.specs.Covering.{CoveredBySquares, CoveredByOne, CoveredWithoutArea}
use Rattle.orient_geom.proofs.Squares.{covered_says, covered_from}

pub covered_by_squares : CoveredBySquares
covered_by_squares box list = (covered_says box list, covered_from box list)

pub covered_by_one : CoveredByOne
covered_by_one box r list in_list left below right above = covered_from box list (λ x y square.
    let box_left : box.x1 ≤ℤ x = square.left in
    let box_right : x <ℤ box.x2 = square.right in
    let box_below : box.y1 ≤ℤ y = square.below in
    let box_above : y <ℤ box.y2 = square.above in
    (r, in_list, record { left = omega (arith, ints); right = omega (arith, ints); below = omega (arith, ints); above = omega (arith, ints) }))

pub covered_without_area : CoveredWithoutArea
covered_without_area box list flat = covered_from box list (λ x y square.
    let box_left : box.x1 ≤ℤ x = square.left in
    let box_right : x <ℤ box.x2 = square.right in
    let box_below : box.y1 ≤ℤ y = square.below in
    let box_above : y <ℤ box.y2 = square.above in
    ⊎_elim (λ (narrow : box.x2 ≤ℤ box.x1). absurd (omega (arith, ints))) (λ (low : box.y2 ≤ℤ box.y1). absurd (omega (arith, ints))) flat)

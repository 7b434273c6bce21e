use Rattle.std.proofs.Common.{arith}
use Rattle.std.proofs.lemmas.Int.{ints, clamps}
use Rattle.place_checks.proofs.BoxLemmas.{in_order_is, small_corner}
use Rattle.place_checks.proofs.outline.corner_box.Goals as goal

pub returns-clause-spans : goal.returns-clause-spans
returns-clause-spans c =
    let n = c.requires.narrow in
    let l = c.requires.low in
    in_order_is c.args.width c.args.height _ _ _ _
    (omega (arith, ints, clamps, n, c.min.ensures)) (omega (arith, ints, clamps, l, c.min-2.ensures))
    (omega (arith, ints, clamps, n, c.max.ensures)) (omega (arith, ints, clamps, l, c.max-2.ensures))

pub returns-clause-small : goal.returns-clause-small
returns-clause-small c =
    let n = c.requires.narrow in
    let l = c.requires.low in
    small_corner c.args.width c.args.height _ _ _ _ n l
    (omega (arith, ints, clamps, n, c.min.ensures)) (omega (arith, ints, clamps, l, c.min-2.ensures))
    (omega (arith, ints, clamps, n, c.max.ensures)) (omega (arith, ints, clamps, l, c.max-2.ensures))

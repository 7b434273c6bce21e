use Rattle.std.proofs.Common.{◌<◌, ◌+◌, length, arith}
use Rattle.unit_numbers.proofs.Sizes.{passed, spelled_twice, all_digits, too_large, small}
use Rattle.unit_numbers.proofs.distance_text.sized.Goals as goal

pub returns-then-size-power-clause-value : goal.returns-then-size-power-clause-value
returns-then-size-power-clause-value c =
    let a = c.args.before.now in
    let b = c.args.behind.now in
    let some : 0 < length a + length b = grind arith in
    let front = passed _ _ _ c.in-Some.ensures in
    let all = passed _ _ _ c.in-Some-spelled.ensures in
    let p = c.power.ensures in
    too_large a b _ _ (spelled_twice a b _ _ 1000000000000000001 front.1 all.1) (all_digits a b front.0 all.0) some c.if-behind-gt-MOST_PLACES.false p.value p.bound c.if-size-power.true

pub returns-clause-value : goal.returns-clause-value
returns-clause-value c =
    let a = c.args.before.now in
    let b = c.args.behind.now in
    let some : 0 < length a + length b = grind arith in
    let front = passed _ _ _ c.in-Some.ensures in
    let all = passed _ _ _ c.in-Some-spelled.ensures in
    let p = c.power.ensures in
    small a b _ _ (spelled_twice a b _ _ 1000000000000000001 front.1 all.1) (all_digits a b front.0 all.0) some c.if-behind-gt-MOST_PLACES.false p.value p.bound c.if-size-power.false

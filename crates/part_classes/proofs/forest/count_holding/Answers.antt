use Rattle.std.proofs.Common.{◌<◌, length, arith}
use Rattle.part_classes.proofs.ForestLemmas.{label_few}
use Rattle.part_classes.proofs.CountLemmas.{none_counted, unmarked, held_before, first_held}
use Rattle.part_classes.proofs.forest.count_holding.Goals as goal
use Rattle.part_classes.proofs.forest.count_holding.Goals.{then-marks-part+then-not-held-label, else-marks-part, else-marks-part-via-then-marks-part+else-not-held-label, else-marks-part-via-else-marks-part}

pub loop-part-init : goal.loop-part-init
loop-part-init c = rw c.requires.held (none_counted c.args.marks.now c.args.labels.now)

pub bounds-held-label : goal.bounds-held-label
bounds-held-label c =
    let few = label_few c.args.labels.now c.loop-part.part c.requires.labels (omega (arith, c.loop-part-test.true)) in
    omega (arith, few, c.loop-part-test.true, c.loop-part.invariant.size)

pub bounds-held-label-then-not-held-label : goal.bounds-held-label-then-not-held-label
bounds-held-label-then-not-held-label c =
    let few = label_few c.args.labels.now c.loop-part.part c.requires.labels (omega (arith, c.loop-part-test.true)) in
    omega (arith, few, c.loop-part-test.true, c.loop-part.invariant.size)

pub loop-part-preserved : goal.loop-part-preserved
loop-part-preserved c =
    let i = c.loop-part.invariant in
    let below : c.loop-part.part < length c.args.labels.now = omega (arith, c.loop-part-test.true) in
    let marked : c.loop-part.part < length c.args.marks.now = omega (arith, c.loop-part-test.true, c.requires.marks) in
    elim c.if-marks-part.branch [
      | then-marks-part+then-not-held-label w ↦ rw (w.held-is, w.holding-is) (first_held _ _ _ _ _ i marked below w.if-marks-part.true (let few = label_few c.args.labels.now c.loop-part.part c.requires.labels (omega (arith, c.loop-part-test.true)) in omega (arith, few, c.loop-part-test.true, i.size)) w.if-not-held-label.true)
      | else-marks-part w ↦ rw (w.held-is, w.holding-is) (elim w.else-marks-part.branch [
        | else-marks-part-via-then-marks-part+else-not-held-label v ↦ held_before _ _ _ _ _ i marked below v.if-marks-part.true v.if-not-held-label.false
        | else-marks-part-via-else-marks-part v ↦ unmarked _ _ _ _ _ i marked below v.if-marks-part.false
      ])
    ]

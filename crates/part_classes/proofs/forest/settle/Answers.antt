use Rattle.std.proofs.Common.{arith}
use Rattle.part_classes.proofs.ForestLemmas.{put_under, put_itself, all_settled, same_labels}
use Rattle.part_classes.proofs.forest.settle.Goals as goal
use Rattle.part_classes.proofs.forest.settle.Goals.{then-over-part, else-over-part}

pub loop-part-preserved : goal.loop-part-preserved
loop-part-preserved c =
    let i = c.loop-part.invariant in
    elim c.if-over-part.branch [
      | then-over-part w ↦ rw w.parents-is (put_under c.args.parents.now c.loop-part.parents c.loop-part.part i (omega (arith, c.loop-part-test.true)) (omega (arith, w.if-over-part.true)))
      | else-over-part w ↦ rw w.parents-is (put_itself c.args.parents.now c.loop-part.parents c.loop-part.part i (omega (arith, c.loop-part-test.true)) (omega (arith, w.if-over-part.false)))
    ]

pub returns-clause-labels : goal.returns-clause-labels
returns-clause-labels c = all_settled c.args.parents.now c.loop-part.parents c.loop-part.part c.loop-part.invariant (omega (arith, c.loop-part-test.false))

pub returns-clause-same : goal.returns-clause-same
returns-clause-same c = same_labels c.args.parents.now c.loop-part.parents (all_settled c.args.parents.now c.loop-part.parents c.loop-part.part c.loop-part.invariant (omega (arith, c.loop-part-test.false)))

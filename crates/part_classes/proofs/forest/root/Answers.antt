use Rattle.std.proofs.Common.{sym, ◌∙◌, arith}
use Rattle.std.proofs.lemmas.List.{length-set}
use Rattle.std.proofs.Math.Seq.{lt-length-set}
use Rattle.part_classes.proofs.ForestLemmas.{shorter, step, stop}
use Rattle.part_classes.proofs.forest.root.Goals as goal

pub loop-parents-preserved-then-parents-over : goal.loop-parents-preserved-then-parents-over
loop-parents-preserved-then-parents-over c =
    let i = c.loop-parents.invariant in
    let s = shorter c.loop-parents.parents c.loop-parents.at 0 i.within (omega (arith, c.loop-parents-test.true)) (omega (arith, c.if-parents-over.true)) in
    record {
      within = lt-length-set _ _ _ (omega (arith, i.within, c.loop-parents-test.true));
      least = omega (arith, i.least, c.loop-parents-test.true);
      size = length-set _ _ _ ∙ i.size;
      same = λ k. s k ∙ i.same k;
      way = sym (i.same _) ∙ sym (step c.loop-parents.parents c.loop-parents.at 0 i.within (omega (arith, c.loop-parents-test.true))) ∙ i.same _ ∙ i.way;
    }

pub loop-parents-preserved : goal.loop-parents-preserved
loop-parents-preserved c =
    let i = c.loop-parents.invariant in
    record {
      within = omega (arith, i.within, c.loop-parents-test.true);
      least = omega (arith, i.least, c.loop-parents-test.true);
      size = i.size;
      same = i.same;
      way = sym (i.same _) ∙ sym (step c.loop-parents.parents c.loop-parents.at 0 i.within (omega (arith, c.loop-parents-test.true))) ∙ i.same _ ∙ i.way;
    }

pub returns-clause-root : goal.returns-clause-root
returns-clause-root c =
    let i = c.loop-parents.invariant in
    sym (stop c.loop-parents.parents c.loop-parents.at 0 i.within (omega (arith, c.loop-parents-test.false))) ∙ i.same _ ∙ i.way

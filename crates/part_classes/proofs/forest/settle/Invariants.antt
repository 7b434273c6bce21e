use Rattle.part_classes.proofs.ForestLemmas.{Settled}
use Rattle.part_classes.proofs.forest.settle.Given as goal

abbrev pub invariant-loop-part : goal.invariant-loop-part
invariant-loop-part l = Settled l.fn.parents l.parents l.part

use Rattle.part_classes.proofs.CountLemmas.{Counted}
use Rattle.part_classes.proofs.forest.count_holding.Given as goal

abbrev pub invariant-loop-part : goal.invariant-loop-part
invariant-loop-part l = Counted l.marks l.labels l.held l.part l.holding

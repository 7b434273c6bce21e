use Rattle.part_classes.proofs.CountLaws.{counts_are_all}
use Rattle.part_classes.proofs.laws.counts_are_all.Goals as goal

pub returns : goal.returns
returns c = counts_are_all

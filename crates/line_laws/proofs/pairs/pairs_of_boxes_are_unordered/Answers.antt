use Rattle.design_rules.specs.Boxes.{Boxed}
use Rattle.line_laws.proofs.PairSums.{pairs_are_unordered}
use Rattle.line_laws.proofs.pairs.pairs_of_boxes_are_unordered.Goals as goal

pub returns : goal.returns
returns c = pairs_are_unordered Boxed

use Rattle.design_rules.specs.Boxes.{Boxed}
use Rattle.line_laws.proofs.EachSums.{each_is_unordered}
use Rattle.line_laws.proofs.each.each_is_unordered.Goals as goal

pub returns : goal.returns
returns c = each_is_unordered Boxed

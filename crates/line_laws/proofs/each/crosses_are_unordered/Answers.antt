use Rattle.design_rules.specs.Boxes.{Boxed}
use Rattle.design_model.specs.Geometry.{Rectangle}
use Rattle.line_laws.proofs.EachSums.{crosses_are_unordered}
use Rattle.line_laws.proofs.each.crosses_are_unordered.Goals as goal

pub returns : goal.returns
returns c = crosses_are_unordered Boxed Rectangle

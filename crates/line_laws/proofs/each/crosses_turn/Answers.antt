use Rattle.design_rules.specs.Boxes.{Boxed}
use Rattle.design_model.specs.Geometry.{Rectangle}
use Rattle.line_laws.proofs.EachSums.{crosses_turn}
use Rattle.line_laws.proofs.each.crosses_turn.Goals as goal

pub returns : goal.returns
returns c = crosses_turn Boxed Rectangle

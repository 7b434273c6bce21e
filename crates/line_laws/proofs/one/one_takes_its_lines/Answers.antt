use Rattle.design_rules.specs.Boxes.{Boxed}
use Rattle.line_laws.proofs.OneOfAll.{one_takes_its_lines}
use Rattle.line_laws.proofs.one.one_takes_its_lines.Goals as goal

pub returns : goal.returns
returns c = one_takes_its_lines Boxed

use Rattle.line_laws.proofs.OneOfAll.{one_component_takes_its_lines}
use Rattle.line_laws.proofs.one.one_component_takes_its_lines.Goals as goal

pub returns : goal.returns
returns c = one_component_takes_its_lines

use Rattle.line_laws.proofs.OneOfAll.{design_has_component_lines}
use Rattle.line_laws.proofs.one.design_has_component_lines.Goals as goal

pub returns : goal.returns
returns c = design_has_component_lines

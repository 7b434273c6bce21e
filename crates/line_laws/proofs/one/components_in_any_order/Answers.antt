use Rattle.line_laws.proofs.OneOfAll.{components_in_any_order}
use Rattle.line_laws.proofs.one.components_in_any_order.Goals as goal

pub returns : goal.returns
returns c = components_in_any_order

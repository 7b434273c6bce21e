use Rattle.staying_laws.proofs.ComponentExchanges.{components_are_exchanged}
use Rattle.staying_laws.proofs.components_are_exchanged.Goals as goal

pub returns : goal.returns
returns c = components_are_exchanged c.component_lines_follow.ensures

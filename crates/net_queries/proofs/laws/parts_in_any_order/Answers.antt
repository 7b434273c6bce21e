use Rattle.net_queries.proofs.PartOrder.{parts_alike}
use Rattle.net_queries.proofs.laws.parts_in_any_order.Goals as goal

pub returns : goal.returns
returns c = parts_alike c.labels_are_classes.ensures

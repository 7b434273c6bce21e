use Rattle.net_queries.proofs.PieceLemmas.{alike}
use Rattle.net_queries.proofs.laws.shapes_in_any_order.Goals as goal

pub returns : goal.returns
returns c = alike c.order_is_open.ensures

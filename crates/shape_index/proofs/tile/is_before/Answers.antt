use Rattle.shape_index.proofs.KeyOrder.{less_where_before}
use Rattle.shape_index.proofs.tile.is_before.Goals as goal

pub returns : goal.returns
returns c = less_where_before c.args.a.now c.args.b.now c.lt.result c.lt.ensures

use Rattle.part_classes.proofs.LabelLaws.{order_is_open}
use Rattle.part_classes.proofs.laws.order_is_open.Goals as goal

pub returns : goal.returns
returns c = order_is_open

use Rattle.class_laws.proofs.SameParts.{same_parts}
use Rattle.class_laws.proofs.same_parts_are_alike.Goals as goal

pub returns : goal.returns
returns c = same_parts c.parts_in_any_order.ensures

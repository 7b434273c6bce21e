use Rattle.statement_boxes.proofs.BoxLists.{none_there, one_less}
use Rattle.statement_boxes.proofs.boxes.StatementBoxes.remove.Goals as goal

pub returns-in_default-clause-absent : goal.returns-in_default-clause-absent
returns-in_default-clause-absent g c = λ h. rw (← c.self.view_is) (none_there c.self.inside.tiles.entries c.shape_of.result c.args.gone c.shape_of.ensures c.self.invariant c.in_default.ensures.absent)

pub returns-clause-removed : goal.returns-clause-removed
returns-clause-removed g c = λ h. rw (← c.self.view_is) (one_less c.self.inside.tiles.entries c.remove.new.self.entries c.in-Some.id c.remove.result c.shape_of.result c.args.gone c.shape_of.ensures c.remove.ensures.value c.remove.ensures.removed c.in-Some.ensures.found)

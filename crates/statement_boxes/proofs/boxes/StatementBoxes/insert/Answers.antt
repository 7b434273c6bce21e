use Rattle.statement_boxes.proofs.BoxLists.{one_more}
use Rattle.statement_boxes.proofs.boxes.StatementBoxes.insert.Goals as goal

pub returns-clause-added : goal.returns-clause-added
returns-clause-added g c = rw (← c.self.view_is) (one_more c.self.inside.tiles.entries c.reserve.new.self.entries c.insert_reserved.new.self.entries c.insert_reserved.result c.shape_of.result c.args.put c.reserve.ensures.same c.shape_of.ensures c.insert_reserved.ensures.added)

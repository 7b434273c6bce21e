use Rattle.statement_boxes.proofs.BoxLists.{met_boxes_are_near}
use Rattle.statement_boxes.proofs.laws.met_boxes_are_near.Goals as goal

pub returns : goal.returns
returns c = met_boxes_are_near

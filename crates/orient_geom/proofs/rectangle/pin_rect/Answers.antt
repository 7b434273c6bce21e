use Rattle.design_model.specs.Views.{rectangle_of}
use Rattle.orient_geom.proofs.Placing.{turned_at_is}
use Rattle.orient_geom.proofs.rectangle.pin_rect.Goals as goal

pub returns : goal.returns
returns c = turned_at_is c.args.orient (rectangle_of c.args.rect) (rectangle_of c.turn.result) (rectangle_of c.move_by.result) c.args.at c.turn.ensures.value c.move_by.ensures

use Rattle.design_model.specs.Views.{rectangle_of}
use Rattle.orient_geom.proofs.Placing.{placed_is}
use Rattle.orient_geom.proofs.rectangle.place_rect.Goals as goal

pub returns : goal.returns
returns c =
    placed_is c.args.orient (rectangle_of c.args.boundary) (rectangle_of c.args.rect) (rectangle_of c.turn-corner.result) (rectangle_of c.turn.result) (rectangle_of c.move_by.result) c.args.at c.way.result.x c.way.result.y
    c.turn-corner.ensures.value c.turn.ensures.value c.way.ensures.x c.way.ensures.y c.move_by.ensures

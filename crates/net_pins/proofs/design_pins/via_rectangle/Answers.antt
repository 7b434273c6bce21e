use Rattle.std.proofs.Common.{sym, subst}
use Rattle.design_model.specs.Geometry.{IsNearRectangle}
use Rattle.design_model.specs.Views.{rectangle_of}
use Rattle.net_pins.proofs.NearLemmas.{near_via}
use Rattle.net_pins.proofs.design_pins.via_rectangle.Goals as goal

pub returns-clause-near : goal.returns-clause-near
returns-clause-near c = subst IsNearRectangle (sym c.move_by.ensures) (near_via (rectangle_of c.args.rect) c.args.at c.requires.rect_near c.requires.at_near)

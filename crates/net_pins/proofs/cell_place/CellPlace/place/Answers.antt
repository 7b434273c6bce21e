use Rattle.std.proofs.Common.{sym, subst}
use Rattle.design_model.specs.Geometry.{IsNearRectangle}
use Rattle.design_model.specs.Views.{rectangle_of}
use Rattle.net_pins.proofs.NearLemmas.{near_in_macro}
use Rattle.net_pins.proofs.cell_place.CellPlace.place.Goals as goal

pub place_rect-requires-clause-rect_near : goal.place_rect-requires-clause-rect_near
place_rect-requires-clause-rect_near c = subst IsNearRectangle (sym c.move_by-moved.ensures) (near_in_macro (rectangle_of c.in_units-rect.result) c.args.self.frame.origin c.in_units-rect.ensures.bound c.args.self.frame.origin_near)

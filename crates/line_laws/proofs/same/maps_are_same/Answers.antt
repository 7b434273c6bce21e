use Rattle.design_rules.specs.Boxes.{Boxed}
use Rattle.line_laws.proofs.SameSums.{maps_are_same}
use Rattle.line_laws.proofs.same.maps_are_same.Goals as goal

pub returns : goal.returns
returns g c = maps_are_same g.row.T.Denot Boxed

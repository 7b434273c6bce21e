-- Where components stand.
use Rattle.std.specs.Prelude.{pos}
use Rattle.design_model.specs.declared.geometry.Point.{Point}
use Rattle.place_parts.specs.declared.standing.Spot.{Spot}

abbrev pub origin : Point
origin = record { x = pos 0; y = pos 0 }

abbrev pub place_of_spot : Spot → Point
place_of_spot spot = record { x = spot.x; y = spot.y }

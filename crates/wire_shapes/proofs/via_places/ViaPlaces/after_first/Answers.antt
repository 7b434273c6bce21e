use Rattle.std.proofs.Common.{pos}
use Rattle.wire_shapes.specs.PlacesLeft.{places_left}
use Rattle.wire_shapes.proofs.Places.{after_first}
use Rattle.wire_shapes.proofs.via_places.ViaPlaces.after_first.Goals as goal

pub returns-clause-is : goal.returns-clause-is
returns-clause-is c =
    let v = c.args.via.now in
    after_first v.columns v.rows (record { x = v.step.x; y = pos 0 }) (record { x = pos 0; y = v.step.y }) c.args.at (places_left c.new-places.result) (places_left c.next-first.new.self) c.next-first.result
    c.requires.in_range.some c.requires.in_range.lines c.new-places.ensures.is c.next-first.ensures.gives

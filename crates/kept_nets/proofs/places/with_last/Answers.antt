use Rattle.kept_nets.proofs.PlacedParts.{last_put}
use Rattle.kept_nets.proofs.places.with_last.Goals as goal

pub returns : goal.returns
returns g c = last_put c.args.part.now c.args.place c.args.shapes c.insert.new.self (rw (c.as_slice.ensures.value) at c.in_ok-insert.ensures.put)

use Rattle.std.proofs.Common.{◌≤◌, arith, length, refl, sym}
use Rattle.kept_nets.proofs.PlacedParts.{another_taken, last_taken}
use Rattle.kept_nets.proofs.places.without_part.Goals as goal

pub returns : goal.returns
returns g c = λ before below is left known.
    let found = c.in-Some.ensures.lookup.3 in
    another_taken before c.args.place c.args.gone.now below is c.args.parts.now left c.in-Some.moved.now c.args.shapes c.remove.new.self c.remove-2.new.self c.insert.new.self
    found.0
    (sym (found.1 c.in-Some.moved.now))
    known
    (rw c.as_slice.ensures.value at (c.if-not-remove.ensures.removed refl))
    (rw c.as_slice-2.ensures.value at (c.if-not-remove-2.ensures.removed refl))
    (rw c.as_slice-3.ensures.value at c.in_ok-insert.ensures.put)

pub returns-in_default : goal.returns-in_default
returns-in_default g c = λ before below is left known.
    let end : length c.args.parts.now ≤ c.args.place = grind (arith, c.in_default.ensures.lookup) in
    last_taken before c.args.place c.args.gone.now below is c.args.parts.now left c.args.shapes c.remove.new.self end known (rw c.as_slice.ensures.value at (c.if-not-remove.ensures.removed refl))

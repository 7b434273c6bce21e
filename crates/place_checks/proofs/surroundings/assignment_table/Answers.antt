use Rattle.place_checks.proofs.surroundings.assignment_table.Goals as goal

pub returns : goal.returns
returns g c = rw (c.deref.ensures.value, c.in-Ok.ensures) at c.new.ensures

use Rattle.design_rules.specs.Surroundings.{surroundings}
use Rattle.def_reader.specs.StatementViews.{records_view}
use Rattle.place_checks.proofs.SurroundingLemmas.{same_surroundings}
use Rattle.place_checks.proofs.surroundings.surroundings_of.Goals as goal

pub returns : goal.returns
returns g c =
    let rows = rw c.in-Ok.ensures at c.new.ensures in
    same_surroundings _ (surroundings c.args.library.now (records_view c.args.records.now)) rows c.die_of.ensures c.in-Ok-fences_of.ensures c.in-Ok-assignment_table.ensures

use Rattle.measure_laws.proofs.DesignLengths.{lengths_fit}
use Rattle.measure_laws.proofs.lengths.lengths_fit.Goals as goal

pub returns : goal.returns
returns c = lengths_fit c.def_forms_are_spelled.ensures

use Rattle.lef_reader.proofs.EventLemmas.{records_are_given}
use Rattle.lef_reader.proofs.laws.records_are_given.Goals as goal

pub returns : goal.returns
returns c = records_are_given c.records_are_read.ensures.read

use Rattle.def_parts.proofs.NumberRanges.{int_in_bits}
use Rattle.def_parts.proofs.places.number_of.Goals as goal

pub returns-clause-near : goal.returns-clause-near
returns-clause-near c = int_in_bits c.int_of.result c.args.word.now c.int_of.ensures

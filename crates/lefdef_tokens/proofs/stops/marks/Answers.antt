use Rattle.lefdef_tokens.proofs.StopLemmas.{marks_of_lanes}
use Rattle.lefdef_tokens.proofs.stops.marks.Goals as goal

pub returns : goal.returns
returns c = marks_of_lanes c.args.low c.args.text.now c.args.at c.top_bits.result c.load-bytes.result c.at_most.result c.equal_to.result c.either.result c.load-bytes.ensures c.at_most.ensures c.equal_to.ensures c.either.ensures c.top_bits.ensures

use Rattle.def_grammar.specs.Records.{def}
use Rattle.piece_laws.proofs.Chaining.{chains_part}
use Rattle.piece_laws.proofs.chains.chains_part.Goals as goal

pub returns : goal.returns
returns c = chains_part def

use Rattle.def_grammar.specs.Records.{def}
use Rattle.piece_laws.proofs.Chaining.{chains_join}
use Rattle.piece_laws.proofs.chains.chains_join.Goals as goal

pub returns : goal.returns
returns c = chains_join def

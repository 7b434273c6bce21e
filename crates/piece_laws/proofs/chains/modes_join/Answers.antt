use Rattle.def_grammar.specs.Records.{def}
use Rattle.piece_laws.proofs.Chaining.{modes_join}
use Rattle.piece_laws.proofs.chains.modes_join.Goals as goal

pub returns : goal.returns
returns c = modes_join def

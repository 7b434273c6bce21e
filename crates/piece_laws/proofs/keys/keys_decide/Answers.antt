use Rattle.def_grammar.specs.Records.{def}
use Rattle.piece_laws.proofs.Keyless.{keys_decide}
use Rattle.piece_laws.proofs.keys.keys_decide.Goals as goal

pub returns : goal.returns
returns c = keys_decide def

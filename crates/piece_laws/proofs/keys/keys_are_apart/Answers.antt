use Rattle.def_grammar.specs.Records.{def}
use Rattle.piece_laws.proofs.Keyless.{keys_are_apart}
use Rattle.piece_laws.proofs.keys.keys_are_apart.Goals as goal

pub returns : goal.returns
returns c = keys_are_apart def

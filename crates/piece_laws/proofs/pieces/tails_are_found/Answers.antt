use Rattle.def_grammar.specs.Records.{def}
use Rattle.piece_laws.proofs.Tails.{tails_are_found}
use Rattle.piece_laws.proofs.pieces.tails_are_found.Goals as goal

pub returns : goal.returns
returns c = tails_are_found def

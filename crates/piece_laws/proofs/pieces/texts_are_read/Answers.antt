use Rattle.def_grammar.specs.Records.{def}
use Rattle.piece_laws.proofs.Tails.{texts_are_read}
use Rattle.piece_laws.proofs.pieces.texts_are_read.Goals as goal

pub returns : goal.returns
returns c = texts_are_read def

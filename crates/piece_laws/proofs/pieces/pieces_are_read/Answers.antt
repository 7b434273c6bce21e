use Rattle.def_grammar.specs.Records.{def}
use Rattle.piece_laws.proofs.Reading.{pieces_are_read}
use Rattle.piece_laws.proofs.pieces.pieces_are_read.Goals as goal

pub returns : goal.returns
returns c = pieces_are_read def

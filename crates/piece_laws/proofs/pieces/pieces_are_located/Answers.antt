use Rattle.def_grammar.specs.Records.{def}
use Rattle.piece_laws.proofs.Places.{pieces_are_located}
use Rattle.piece_laws.proofs.pieces.pieces_are_located.Goals as goal

pub returns : goal.returns
returns c = pieces_are_located def

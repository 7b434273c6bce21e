use Rattle.def_grammar.specs.Records.{def}
use Rattle.piece_laws.proofs.ReadPieces.{pieces_are_found}
use Rattle.piece_laws.proofs.pieces.pieces_are_found.Goals as goal

pub returns : goal.returns
returns c = pieces_are_found def

use Rattle.def_grammar.specs.Records.{def}
use Rattle.piece_laws.proofs.FoundPieces.{statements_are_pieces}
use Rattle.piece_laws.proofs.pieces.statements_are_pieces.Goals as goal

pub returns : goal.returns
returns c = statements_are_pieces def

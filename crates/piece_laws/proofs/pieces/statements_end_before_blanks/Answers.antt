use Rattle.piece_laws.proofs.Fronts.{statements_end_before_blanks}
use Rattle.piece_laws.proofs.pieces.statements_end_before_blanks.Goals as goal

pub returns : goal.returns
returns c = statements_end_before_blanks

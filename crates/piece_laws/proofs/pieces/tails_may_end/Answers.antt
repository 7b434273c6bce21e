use Rattle.def_grammar.specs.Records.{def}
use Rattle.piece_laws.proofs.Tails.{tails_may_end}
use Rattle.piece_laws.proofs.pieces.tails_may_end.Goals as goal

pub returns : goal.returns
returns c = tails_may_end def

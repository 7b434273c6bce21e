use Rattle.def_grammar.specs.Records.{def}
use Rattle.piece_laws.proofs.Fronts.{faults_stand}
use Rattle.piece_laws.proofs.pieces.faults_stand.Goals as goal

pub returns : goal.returns
returns c = faults_stand def

use Rattle.def_grammar.specs.Records.{def}
use Rattle.piece_laws.proofs.Chaining.{chains_lead}
use Rattle.piece_laws.proofs.chains.chains_lead.Goals as goal

pub returns : goal.returns
returns c = chains_lead def

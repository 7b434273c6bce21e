use Rattle.def_grammar.specs.Records.{def}
use Rattle.statement_laws.proofs.JoinedTexts.{texts_join}
use Rattle.statement_laws.proofs.texts.texts_join.Goals as goal

pub returns : goal.returns
returns c = texts_join def

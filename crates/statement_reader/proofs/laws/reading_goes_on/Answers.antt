use Rattle.statement_reader.proofs.Steps.{faults_stop, repeats_stop, reading_goes_on, reading_ends}
use Rattle.statement_reader.proofs.laws.reading_goes_on.Goals as goal

pub returns-clause-fault : goal.returns-clause-fault
returns-clause-fault g c = faults_stop g.S.Statement.grammar

pub returns-clause-repeats : goal.returns-clause-repeats
returns-clause-repeats g c = repeats_stop g.S.Statement.grammar

pub returns-clause-goes_on : goal.returns-clause-goes_on
returns-clause-goes_on g c = reading_goes_on g.S.Statement.grammar

pub returns-clause-ends : goal.returns-clause-ends
returns-clause-ends g c = reading_ends g.S.Statement.grammar

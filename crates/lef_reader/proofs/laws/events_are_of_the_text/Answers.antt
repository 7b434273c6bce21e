use Rattle.lef_reader.proofs.ToldLemmas.{end_is_of_text, fault_is_of_text}
use Rattle.lef_reader.proofs.laws.events_are_of_the_text.Goals as goal

pub returns-clause-end : goal.returns-clause-end
returns-clause-end c =
    let e = c.reading_goes_on.ensures in
    end_is_of_text e.fault e.goes_on e.ends

pub returns-clause-fault : goal.returns-clause-fault
returns-clause-fault c =
    let e = c.reading_goes_on.ensures in
    fault_is_of_text e.fault e.goes_on e.ends

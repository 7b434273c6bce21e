use Rattle.number_laws.proofs.PassedNumbers.{passed_are_numbers}
use Rattle.number_laws.proofs.records.passed_are_numbers.Goals as goal

pub returns : goal.returns
returns c = passed_are_numbers

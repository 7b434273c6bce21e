use Rattle.unit_numbers.proofs.Shorts.{few_digits}
use Rattle.unit_numbers.proofs.laws.few_digits_are_whole.Goals as goal

pub returns : goal.returns
returns c = few_digits

use Rattle.splicing_laws.proofs.PrintedNumbers.{printed_numbers_are_read}
use Rattle.splicing_laws.proofs.putting.printed_numbers_are_read.Goals as goal

pub returns : goal.returns
returns c = printed_numbers_are_read

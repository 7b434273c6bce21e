use Rattle.splicing_laws.proofs.PutTokens.{printed_numbers_are_words}
use Rattle.splicing_laws.proofs.putting.printed_numbers_are_words.Goals as goal

pub returns : goal.returns
returns c = printed_numbers_are_words

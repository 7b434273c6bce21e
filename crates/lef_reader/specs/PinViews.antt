-- Statements of a block PIN: the program's as those of the definitions, and which tokens they are.
use Rattle.std.specs.Prelude.{List}
use Rattle.lef_grammar.specs.PinBlock.{PinRecord, end_pin, opens_port, kept_in_pin}
use Rattle.statement_model.specs.Tokens.{Token}
use Rattle.lefdef_tokens.specs.Views.{words_of}
use Rattle.lef_reader.specs.Parts.{WordsAt}
use Rattle.lef_reader.specs.declared.pin_block.PinStatement.{PinStatement}
use Rattle.lef_reader.specs.declared.pin_block.PinStatement.TheVariants.{End, OpensPort, Kept}

abbrev pub pin_view : PinStatement → PinRecord
pin_view End = end_pin
pin_view OpensPort = opens_port
pin_view (Kept w others) = kept_in_pin w.bytes.now (words_of others)

abbrev pub PinAt : List Token → PinStatement → Type 0
PinAt ps End = Unit {0}
PinAt ps OpensPort = Unit {0}
PinAt ps (Kept w others) = WordsAt ps (w, others)

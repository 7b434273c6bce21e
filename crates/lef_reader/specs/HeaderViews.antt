-- Which words may still come in a header: the program's as the definitions'; and what a header has to do with a fault.
use Rattle.std.specs.Prelude.{Result, Ok, Err}
use Rattle.design_model.specs.declared.fault.Fault.{Fault}
use Rattle.statement_model.specs.Tokens.{Lexed}
use Rattle.lef_grammar.specs.LefRecords.{Block, first_fault}
use Rattle.lef_grammar.specs.HeaderWords.{HeaderWords, of_via, of_rule}
use Rattle.lef_reader.specs.declared.header_words.HeaderWords as code_words
use Rattle.lef_reader.specs.declared.header_words.HeaderWords.TheVariants as variants
use Rattle.lef_reader.specs.KeptViews.{header_view}

abbrev pub header_words_view : code_words.HeaderWords → HeaderWords
header_words_view variants.Via = of_via
header_words_view (variants.GeneratingRule header) = of_rule (header_view header)

-- what was found, or the first fault of the tokens from there on
abbrev pub or_first_fault : {A : Type 0} → Block → Lexed → Result A Fault → Result A Fault
or_first_fault b l (Ok x) = Ok x
or_first_fault b l (Err f) = Err (first_fault b l.pieces l.end f)

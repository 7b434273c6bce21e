-- BEGINEXT (LEF/DEF 5.8 Language Reference, "Extensions"), which means nothing.
use Rattle.std.specs.Prelude.{ℕ, Bool, List, codes}
use Rattle.form_meanings.specs.Words.{is_word}
use Rattle.statement_model.specs.Form.{Form, upto, ◌◂◌}

abbrev pub is_end_of_extension : List ℕ → Bool
is_end_of_extension w = is_word (codes "ENDEXT") w

-- the tokens up to ENDEXT, after BEGINEXT
unfoldable pub extension_statement : Form (List (List ℕ))
extension_statement = upto is_end_of_extension ◂ codes "ENDEXT"

-- The sections SCANCHAINS, PINPROPERTIES, SLOTS, FILLS and STYLES (LEF/DEF 5.8 Language Reference), whose entries mean nothing.
use Rattle.std.specs.Prelude.{ℕ, List, codes}
use Rattle.form_meanings.specs.Words.{is_semicolon}
use Rattle.statement_model.specs.Form.{Form, upto, ◌▸◌, ◌◂◌}

-- - any* ;
unfoldable pub skipped_form : Form (List (List ℕ))
skipped_form = codes "-" ▸ upto is_semicolon ◂ codes ";"

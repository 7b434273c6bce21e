-- PROPERTYDEFINITIONS (LEF/DEF 5.8 Language Reference, "Property Definitions"), which mean nothing.
use Rattle.std.specs.Prelude.{◌⊎◌, ℕ, List, codes}
use Rattle.std.proofs.Common.{inl, inr}
use Rattle.form_meanings.specs.Words.{is_semicolon}
use Rattle.statement_model.specs.Form.{Form, empty, upto, ◌▸◌, ◌◂◌, or_else}

-- what stands between: the end of the definitions, or the tokens of a statement before its ;
abbrev pub PropertyRecord : Type 0
PropertyRecord = Unit {0} ⊎ List (List ℕ)

pattern abbrev pub end_properties : PropertyRecord
end_properties = inl tt

pattern abbrev pub property : List (List ℕ) → PropertyRecord
property tokens = inr tokens

-- END PROPERTYDEFINITIONS, or any* ;. The statement END ; is kept, so that END alone doesn't tell: code reads both tokens.
unfoldable pub property_statement : Form PropertyRecord
property_statement = or_else (codes "END" ▸ codes "PROPERTYDEFINITIONS" ▸ empty) (upto is_semicolon ◂ codes ";")

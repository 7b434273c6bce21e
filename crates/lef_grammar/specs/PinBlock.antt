-- The block PIN of a macro (LEF/DEF 5.8 Language Reference, "Macro Pin Statement").
use Rattle.std.specs.Prelude.{◌⊎◌, ℕ, Bool, true, false, List, codes, if◌then◌else◌}
use Rattle.std.proofs.Common.{inl, inr}
use Rattle.form_meanings.specs.Words.{is_word}
use Rattle.statement_model.specs.Boundaries.{Ending, alone}
use Rattle.statement_model.specs.Form.{Form, empty, ◌▸◌, on}
use Rattle.lef_grammar.specs.Extents.{block_ending, kept_statement}

-- what a statement in it says: its end, the header of a block PORT, or a statement without meaning
abbrev pub PinRecord : Type 0
PinRecord = Unit {0} ⊎ (Unit {0} ⊎ (List ℕ × List (List ℕ)))

pattern abbrev pub end_pin : PinRecord
end_pin = inl tt

pattern abbrev pub opens_port : PinRecord
opens_port = inr (inl tt)

pattern abbrev pub kept_in_pin : List ℕ → List (List ℕ) → PinRecord
kept_in_pin w ws = inr (inr (w, ws))

-- a header has no ;
abbrev pub pin_ending : List ℕ → Ending
pin_ending w = if is_word (codes "PORT") w then alone else block_ending w

unfoldable pub pin_statement : List ℕ → Form PinRecord
pin_statement block = on (codes "END") (block ▸ empty) (on (codes "PORT") empty kept_statement)

abbrev pub ends_pin : PinRecord → Bool
ends_pin end_pin = true
ends_pin _ = false

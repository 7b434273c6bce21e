-- The statements of a LEF text, handed out one at a time.
use Rattle.std.specs.Prelude.{◌≡◌, ℕ, nat_lt, List, [], ◌∷◌, length, Option, Some, None, Result, Ok, Err, if◌then◌else◌}
use Rattle.std.specs.Option.{option_map}
use Rattle.design_model.specs.declared.TheConstants.{MAX_TEXT}
use Rattle.design_model.specs.declared.fault.Fault.{Fault}
use Rattle.design_model.specs.declared.fault.FaultCode.TheVariants.{TooLong}
use Rattle.statement_model.specs.Tokens.{Lexed, Token, tokens}
use Rattle.statement_model.specs.Boundaries.{statement_at}
use Rattle.statement_model.specs.Reading.{fault_at}
use Rattle.lef_grammar.specs.LefRecords.{Block, outermost, LefRecord, lef_ending, read_lef, read_lef_at}
use Rattle.lef_reader.specs.Stepping.{first_tokens}
use Rattle.lef_reader.specs.StatementViews.{lef_view}
use Rattle.lef_reader.specs.declared.statement.LefStatement.{LefStatement}

-- what is left of a text: the block of the next statement, and the tokens from it on
pub record Events : Type 0 where
  pub text : List ℕ
  pub block : Block
  pub left : Lexed

abbrev pub events_of : List ℕ → Events
events_of text = record { text = text; block = outermost; left = tokens text }

-- the next record, the block of the one after it, and what is left
abbrev pub read_next : Events → Result (Option (LefRecord × Block × Lexed)) Fault
read_next e = if nat_lt MAX_TEXT (length e.text) then Err (fault_at TooLong 0) else read_lef_at e.block e.left

-- the tokens of the next statement
abbrev pub next_tokens : Events → List Token
next_tokens e = first_tokens (statement_at (lef_ending e.block) e.left)

abbrev pub record_of : Result (Option (LefRecord × Block × Lexed)) Fault → Result (Option LefRecord) Fault
record_of (Ok None) = Ok None
record_of (Ok (Some x)) = Ok (Some x.0)
record_of (Err f) = Err f

-- after the end and after a fault nothing changes
abbrev pub left_after : Events → Result (Option (LefRecord × Block × Lexed)) Fault → Events
left_after e (Ok (Some x)) = record { text = e.text; block = x.1; left = x.2 }
left_after e _ = e

abbrev pub next_record : Events → Result (Option LefRecord) Fault
next_record e = record_of (read_next e)

abbrev pub after_next : Events → Events
after_next e = left_after e (read_next e)

-- a statement of the program
abbrev pub found_view : Result (Option LefStatement) Fault → Result (Option LefRecord) Fault
found_view (Ok found) = Ok (option_map lef_view found)
found_view (Err f) = Err f

-- these records come one after the other, and then this: the end or a fault
abbrev pub Give : List LefRecord → Result (Option LefRecord) Fault → Events → Type 0
Give [] last e = next_record e ≡ last
Give (r ∷ rs) last e = (next_record e ≡ Ok (Some r)) × Give rs last (after_next e)

-- The records of a text that reads come one after the other, and then the end.
abbrev pub RecordsAreGiven : Type 0
RecordsAreGiven = (text : List ℕ) (recs : List LefRecord) → read_lef text ≡ Ok recs → Give recs (Ok None) (events_of text)

-- A text reads as what comes up to the end, and it has the fault that comes.
abbrev pub EndIsOfText : Type 0
EndIsOfText = (text : List ℕ) (recs : List LefRecord) → Give recs (Ok None) (events_of text) → read_lef text ≡ Ok recs

abbrev pub FaultIsOfText : Type 0
FaultIsOfText = (text : List ℕ) (recs : List LefRecord) (f : Fault) → Give recs (Err f) (events_of text) → read_lef text ≡ Err f

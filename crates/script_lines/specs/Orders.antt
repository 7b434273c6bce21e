-- What a parsed line asks.
use Rattle.std.specs.Prelude.{ℕ, List, Option, Some, None}
use Rattle.design_model.specs.Units.{whole}
use Rattle.form_meanings.specs.Words.{◌>>=◌}
use Rattle.edit_rules.specs.Edits.{change_of}
use Rattle.edit_rules.specs.Runs.{design_edit, text_edit}
use Rattle.edit_rules.specs.Script.{Question, report, shown, total_length, length_of, box_of, density_of, place_density_of, Order, nothing, make, refuse, ask, bad, range_order, unescaped}
use Rattle.script_lines.specs.declared.command.Command as command
use Rattle.script_lines.specs.declared.command.Question as code_question
use Rattle.script_lines.specs.declared.command.Command.{Command}

abbrev pub question_seen : code_question.Question → Question
question_seen code_question.TheVariants.Report = report
question_seen (code_question.TheVariants.Show section name) = shown section name.now
question_seen code_question.TheVariants.TotalLength = total_length
question_seen (code_question.TheVariants.Length name) = length_of name.now
question_seen (code_question.TheVariants.Box name) = box_of name.now
question_seen (code_question.TheVariants.Cell column row layer) = density_of column row layer.now
question_seen (code_question.TheVariants.PlaceCell column row) = place_density_of column row

abbrev pub text_seen : ℕ → ℕ → Option (List ℕ) → Order
text_seen a b None = bad
text_seen a b (Some put) = make (text_edit a b put)

-- what a command asks
abbrev pub order_seen : Command → Order
order_seen command.TheVariants.Nothing = nothing
order_seen (command.TheVariants.Edit edit) = make (design_edit (change_of edit))
order_seen (command.TheVariants.Text a b new) = text_seen a b (unescaped new.raw.now)
order_seen (command.TheVariants.Refused code) = refuse code
order_seen (command.TheVariants.Ask question) = ask (question_seen question)
order_seen command.TheVariants.Bad = bad

-- `text a b NEW` with the bytes that NEW is written for, if any
abbrev pub text_or_none : List ℕ → List ℕ → Option (List ℕ) → Option Order
text_or_none a b new = new >>= λ put. Some (range_order put (whole a) (whole b))

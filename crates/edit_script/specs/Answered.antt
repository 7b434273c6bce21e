-- What the answer to one line says.
use Rattle.std.specs.Prelude.{◌≡◌, ◌≤◌, ◌<◌, ◌+◌, ◌^◌, ℕ, List, Option, Some, Result, Err, length}
use Rattle.edit_model.specs.declared.edit.Done.{Done}
use Rattle.edit_model.specs.declared.edit.EditRefusal.{EditRefusal}
use Rattle.edit_rules.specs.Runs.{Answers, text_edit}
use Rattle.lef_grammar.specs.Library.{Library}
use Rattle.report_rules.specs.Output.{Counts}
use Rattle.edit_script.specs.declared.run.Tally.{Tally}

abbrev pub counts_of : Tally → Counts
counts_of t = record { accepted = t.accepted; refused = t.refused; bad = t.bad }

-- each count can still grow
pub record HasRoom (t : Tally) : Type 0 where
  pub accepted : t.accepted < 2 ^ 63
  pub refused : t.refused < 2 ^ 63
  pub bad : t.bad < 2 ^ 63

-- each count grows by one at most
pub record Grows (old new : Tally) : Type 0 where
  pub accepted : new.accepted ≤ old.accepted + 1
  pub refused : new.refused ≤ old.refused + 1
  pub bad : new.bad ≤ old.bad + 1

-- a text edit may be refused so, of any text and of any bytes of these lengths
abbrev pub RefusesText : ℕ → ℕ → ℕ → ℕ → EditRefusal → Type 0
RefusesText text_len a b put_len refusal =
    (library : Library) (old put : List ℕ) → length old ≡ text_len → length put ≡ put_len → Answers library old (text_edit a b put) (Err refusal) old

-- a text edit may be answered so, where its bytes are written with good escapes
abbrev pub AnswersText : Library → List ℕ → ℕ → ℕ → Option (List ℕ) → Result Done EditRefusal → List ℕ → Type 0
AnswersText library old a b put reply new = (bytes : List ℕ) → put ≡ Some bytes → Answers library old (text_edit a b bytes) reply new

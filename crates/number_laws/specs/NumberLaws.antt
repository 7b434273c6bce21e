-- Laws of the numbers of texts that read.
use Rattle.std.specs.Prelude.{◌≡◌, ℕ, List, [], None, Ok}
use Rattle.std.specs.List.{All}
use Rattle.statement_model.specs.Form.{Fits}
use Rattle.statement_model.specs.Grammar.{Grammar}
use Rattle.statement_model.specs.Reading.{read_text}
use Rattle.def_grammar.specs.Records.{Record, read_def}
use Rattle.lef_grammar.specs.LefRecords.{LefRecord, read_lef}
use Rattle.number_laws.specs.LefNumbers.{LefRecordNumbers}
use Rattle.number_laws.specs.RecordNumbers.{RecordNumbers}

-- a record stands somewhere in its form, and none of its numbers is bad there
pub record HasNoBadNumber {M R : Type 0} (g : Grammar M R) (r : R) : Type 0 where
  pub mode : M
  pub fits : Fits (g.form mode) r []
  pub good : (g.form mode).of.bad r [] ≡ None

-- No record of a text that reads has a bad number.
abbrev pub NoNumberIsBad : {M R : Type 0} → Grammar M R → Type 0
NoNumberIsBad {M = M} {R = R} g = (m : M) (text : List ℕ) (recs : List R) → read_text g m text ≡ Ok recs → All (HasNoBadNumber g) recs

-- The numbers of each record of a DEF text that reads pass the tests of its form.
abbrev pub DefNumbersPass : Type 0
DefNumbersPass = (text : List ℕ) (recs : List Record) → read_def text ≡ Ok recs → All RecordNumbers recs

-- So do those of each record of a LEF text.
abbrev pub LefNumbersPass : Type 0
LefNumbersPass = (text : List ℕ) (recs : List LefRecord) → read_lef text ≡ Ok recs → All LefRecordNumbers recs

-- A record whose numbers pass has no bad number, wherever it stands: none is left out of what they are to pass.
abbrev pub NoneIsLeftOut : {M R : Type 0} → Grammar M R → (R → Type 0) → Type 0
NoneIsLeftOut {M = M} {R = R} g Numbers = (m : M) (r : R) → Numbers r → (g.form m).of.bad r [] ≡ None

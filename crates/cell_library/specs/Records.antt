-- What statements of the program say.
use Rattle.std.specs.Prelude.{List, Option, IsTrue, map}
use Rattle.std.specs.List.{AllByRecursion}
use Rattle.std.specs.Option.{is_some}
use Rattle.lef_grammar.specs.LefRecords.{LefRecord}
use Rattle.lef_reader.specs.StatementViews.{lef_view}
use Rattle.lef_reader.specs.declared.statement.LefStatement.{LefStatement}

abbrev pub records_view : List LefStatement → List LefRecord
records_view statements = map lef_view statements

-- each of these is a part of a definition
abbrev pub AreIn : {P : Type 0} → (LefRecord → Option P) → List LefRecord → Type 0
AreIn part recs = AllByRecursion (λ r. IsTrue (is_some (part r))) recs

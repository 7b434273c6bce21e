-- The lines on statements, while an edit exchanges statements for others that show the same.
use Rattle.std.specs.Prelude.{◌≡◌, ℕ, List, ◌++◌, flat_map, map}
use Rattle.design_model.specs.Order.{sorted_by_bytes}
use Rattle.design_model.specs.declared.identifier.StmtId.{StmtId}
use Rattle.def_grammar.specs.Records.{Record}
use Rattle.lef_grammar.specs.Library.{Library}
use Rattle.agreement_laws.specs.Agreement.{all_shown, outline_of}
use Rattle.design_rules.specs.CountLines.{count_lines}
use Rattle.entry_rules.specs.Unchecked.{unchecked_in_library}
use Rattle.kept_lines.specs.Kept.{Kept}
use Rattle.report_rules.specs.Diagnostics.{statement_lines}
use Rattle.staying_laws.specs.Staying.{lines_on_statements}

-- what numbered statements say
abbrev pub said : List (StmtId × Record) → List Record
said records = map (λ (x : StmtId × Record). x.1) records

-- Statements show the same as others: their entries what other statements can see of them, and each what it is to the number in a header.
pub record ShowSame (old new : List Record) : Type 0 where
  pub shown : all_shown old ≡ all_shown new
  pub outline : map outline_of old ≡ map outline_of new

-- kept lines are those on the statements of a design, in the order of their bytes
abbrev pub AreOnStatements : Library → List Record → Kept → Type 0
AreOnStatements library design kept = kept.lines ≡ sorted_by_bytes (lines_on_statements library design)

-- what names stand for in a design, and what its headers say: the lines on some statements by these, and those on headers and the library
abbrev pub lines_by : Library → List Record → List Record → List (List ℕ)
lines_by library design some = count_lines design ++ (flat_map (statement_lines library design) some ++ unchecked_in_library library)

abbrev pub AreKeptBy : Library → List Record → List Record → Kept → Type 0
AreKeptBy library design some kept = kept.lines ≡ sorted_by_bytes (lines_by library design some)

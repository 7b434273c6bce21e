-- What is told of a text before an edit of its sections.
use Rattle.std.specs.Prelude.{◌++◌, ℕ, List, Option, flat_map}
use Rattle.def_grammar.specs.Records.{Record}
use Rattle.lef_grammar.specs.Library.{Library}
use Rattle.design_rules.specs.CountLines.{count_lines}
use Rattle.report_rules.specs.Diagnostics.{statement_lines}
use Rattle.line_laws.specs.Lines.{SameLines}
use Rattle.followed_statements.specs.Seen.{IsNoPinName, listing_one}
use Rattle.followed_statements.specs.declared.telling.ToldStatements.{ToldStatements}

-- the lines on headers, and on the entries that list a component
pub record AreToldLines (library : Library) (design : List Record) (component : Option (List ℕ)) (told : List (List ℕ)) : Type 0 where
  pub lines : SameLines told (count_lines design ++ flat_map (statement_lines library design) (listing_one component design))
  pub no_pin : IsNoPinName component

abbrev pub AreStatementsTold : {A : Type 0} → Library → List Record → ToldStatements A → Type 0
AreStatementsTold library design t = AreToldLines library design t.component t.lines

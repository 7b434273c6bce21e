-- What is measured of a text, which follows its edits.
use Rattle.std.specs.Prelude.{IfSome, List, Option}
use Rattle.design_model.specs.declared.identifier.StmtId.{StmtId}
use Rattle.def_grammar.specs.Records.{Record}
use Rattle.lef_grammar.specs.Library.{Library}
use Rattle.reports.specs.Answers.{Answers, ReportsOn}
use Rattle.followed_nets.specs.Heads.{Head}
use Rattle.followed_nets.specs.Noted.{AreCommon, said}
use Rattle.followed_nets.specs.StarHeads.{AreStarHeads}

-- the answers; once they were asked for, the numbers of the statements that are read whichever net is told, and heads of the nets that list a
-- pin of all components, unless there are none to be had
pub record Measures : Type 0 where
  pub answers : Answers
  pub common : Option (List StmtId)
  pub heads : Option (List Head)

-- they are those of a text's numbered statements
pub record HasMeasures (library : Library) (records : List (StmtId × Record)) (m : Measures) : Type 0 where
  pub answers_are : ReportsOn library (said records) m.answers
  pub common_are : IfSome m.common (AreCommon records)
  pub heads_are : IfSome m.heads (AreStarHeads (said records))

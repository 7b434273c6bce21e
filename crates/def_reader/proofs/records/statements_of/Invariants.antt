use Rattle.std.proofs.Common.{◌≡◌, ◌-◌, ◌++◌, length, map}
use Rattle.std.specs.List.{All}
use Rattle.design_model.specs.declared.mode.Mode.TheVariants.{Top}
use Rattle.statement_reader.specs.Located.{located_at}
use Rattle.def_grammar.specs.Records.{def}
use Rattle.def_reader.specs.Lent.{StatementIn}
use Rattle.def_reader.specs.StatementViews.{record_view}
use Rattle.def_reader.proofs.RecordSteps.{records_in}
use Rattle.def_reader.proofs.records.statements_of.Given as goal

abbrev pub invariant-loop-read : goal.invariant-loop-read
invariant-loop-read g l = record {
  text : l.statements.text.now ≡ l.text;
  records : records_in (located_at def Top l.text 0) ≡ map record_view l.found.items ++ records_in (located_at def l.statements.place l.statements.text.now l.statements.pos);
  lent : All (StatementIn l.text) l.found.items;
}

abbrev pub decreases-loop-read : goal.decreases-loop-read
decreases-loop-read g l = length l.statements.text.now - l.statements.pos

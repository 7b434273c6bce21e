use Rattle.std.proofs.Common.{◌≡◌, ◌-◌, length}
use Rattle.design_model.specs.declared.mode.Mode.TheVariants.{Top}
use Rattle.statement_reader.specs.Located.{located_at}
use Rattle.def_grammar.specs.Records.{def}
use Rattle.def_grammar.specs.Located.{component_at}
use Rattle.def_reader.proofs.records.component_named.Given as goal

abbrev pub invariant-loop-read : goal.invariant-loop-read
invariant-loop-read l = record {
  text : l.statements.text.now ≡ l.text;
  named : component_at l.name (located_at def Top l.text 0) ≡ component_at l.name (located_at def l.statements.place l.statements.text.now l.statements.pos);
}

abbrev pub decreases-loop-read : goal.decreases-loop-read
decreases-loop-read l = length l.statements.text.now - l.statements.pos

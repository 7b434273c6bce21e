use Rattle.std.proofs.Common.{◌≤◌, ◌-◌}
use Rattle.memchr.specs.Find.{Nowhere, Passes}
use Rattle.statement_model.specs.Tokens.{is_refused}
use Rattle.lefdef_tokens.proofs.runs.find_refused.Given as goal

abbrev pub invariant-loop-stop : goal.invariant-loop-stop
invariant-loop-stop l = record {
  low : l.from ≤ l.pos;
  high : l.pos ≤ l.end;
  before : Nowhere (Passes is_refused l.text) l.from l.pos;
}

abbrev pub decreases-loop-stop : goal.decreases-loop-stop
decreases-loop-stop l = l.end - l.pos

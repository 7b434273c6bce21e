use Rattle.std.proofs.Common.{◌≤◌, ◌-◌}
use Rattle.memchr.specs.Find.{Nowhere, Passes}
use Rattle.lefdef_tokens.specs.Runs.{stops}
use Rattle.lefdef_tokens.proofs.stops.first_stop.Given as goal

abbrev pub invariant-loop-pos : goal.invariant-loop-pos
invariant-loop-pos l = record {
  low : l.from ≤ l.pos;
  high : l.pos ≤ l.end;
  before : Nowhere (Passes (stops l.low) l.text) l.from l.pos;
}

abbrev pub decreases-loop-pos : goal.decreases-loop-pos
decreases-loop-pos l = l.end - l.pos

abbrev pub invariant-loop-at : goal.invariant-loop-at
invariant-loop-at l = Nowhere (Passes (stops l.low) l.text) l.from l.at

use Rattle.std.proofs.Common.{◌≡◌, ◌≤◌, ◌-◌, ◌++◌, length}
use Rattle.design_model.specs.declared.mode.Mode.TheVariants.{Top}
use Rattle.def_reader.proofs.CheckSteps.{Going, spans_at}
use Rattle.def_reader.proofs.read_def.read_def.Given as goal

abbrev pub invariant-loop-seen : goal.invariant-loop-seen
invariant-loop-seen g l = record {
  within : l.pos ≤ length l.text;
  spans : spans_at Top l.text 0 ≡ l.spans.items ++ spans_at l.mode l.text l.pos;
  going : Going l.text l.seen.words.keys l.seen.names.keys l.mode l.pos;
}

abbrev pub decreases-loop-seen : goal.decreases-loop-seen
decreases-loop-seen g l = length l.text - l.pos

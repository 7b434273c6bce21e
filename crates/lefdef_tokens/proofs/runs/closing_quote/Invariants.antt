use Rattle.std.proofs.Common.{◌≤◌, ◌<◌, ◌+◌, ◌-◌, length}
use Rattle.lefdef_tokens.specs.Runs.{GoesOn}
use Rattle.lefdef_tokens.proofs.runs.closing_quote.Given as goal

abbrev pub invariant-loop-quote : goal.invariant-loop-quote
invariant-loop-quote l = record {
  low : l.start < l.from;
  high : l.from ≤ length l.text;
  inside : GoesOn l.text (l.start + 1) l.from;
}

abbrev pub decreases-loop-quote : goal.decreases-loop-quote
decreases-loop-quote l = length l.text - l.from

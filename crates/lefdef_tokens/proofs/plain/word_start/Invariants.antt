use Rattle.std.proofs.Common.{◌≡◌, ◌≤◌, ◌<◌, ℕ, false, slice_index}
use Rattle.statement_model.specs.Tokens.{is_white}
use Rattle.lefdef_tokens.proofs.plain.word_start.Given as goal

abbrev pub invariant-loop-start : goal.invariant-loop-start
invariant-loop-start l = record {
  low : l.from < l.start;
  high : l.start ≤ l.at;
  whole : (k : ℕ) → l.start ≤ k → k < l.at → is_white (slice_index l.text k) ≡ false;
}

abbrev pub decreases-loop-start : goal.decreases-loop-start
decreases-loop-start l = l.start

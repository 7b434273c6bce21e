use Rattle.std.proofs.Common.{◌≡◌, ◌≤◌}
use Rattle.lefdef_tokens.specs.TokenViews.{end_after, pieces_of, span_of}
use Rattle.lefdef_tokens.proofs.token_run.TokenRun.span.Given as goal

abbrev pub invariant-loop-later : goal.invariant-loop-later
invariant-loop-later l = record {
  gives : span_of (pieces_of l.self) ≡ record { lo = l.first.pos; hi = end_after l.left.pos (pieces_of l.left) };
  order : l.first.pos ≤ l.left.pos;
  same : l.left.text.now ≡ l.self.text.now;
}

abbrev pub decreases-loop-later : goal.decreases-loop-later
decreases-loop-later l = l.left.count

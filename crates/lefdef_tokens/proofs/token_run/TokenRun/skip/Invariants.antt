use Rattle.std.proofs.Common.{◌≡◌, ◌-◌, drop}
use Rattle.lefdef_tokens.specs.TokenViews.{pieces_of, words_of}
use Rattle.lefdef_tokens.proofs.token_run.TokenRun.skip.Given as goal

abbrev pub invariant-loop : goal.invariant-loop
invariant-loop l = record {
  pieces : drop l.count (pieces_of l.self) ≡ drop (l.count - l.counter) (pieces_of l.left);
  words : drop l.count (words_of l.self) ≡ drop (l.count - l.counter) (words_of l.left);
  same : l.left.text.now ≡ l.self.text.now;
}

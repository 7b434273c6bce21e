use Rattle.std.proofs.Common.{◌≡◌, ◌≤◌, ◌+◌, ◌-◌, length}
use Rattle.statement_model.specs.Tokens.{left_from, tokens}
use Rattle.lefdef_tokens.proofs.token_run.TokenRun.of_text.Given as goal

abbrev pub invariant-loop-end : goal.invariant-loop-end
invariant-loop-end l = record {
  within : l.pos ≤ length l.text;
  few : l.count ≤ l.pos;
  counted : l.count + length (left_from l.text l.pos).pieces ≡ length (tokens l.text).pieces;
  same_end : (left_from l.text l.pos).end ≡ (tokens l.text).end;
}

abbrev pub decreases-loop-end : goal.decreases-loop-end
decreases-loop-end l = length l.text - l.pos

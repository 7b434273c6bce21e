use Rattle.std.proofs.Common.{◌≡◌, ◌≤◌, ◌-◌, length, drop}
use Rattle.statement_model.specs.Tokens.{lex}
use Rattle.statement_model.specs.Tokens.Open.{between}
use Rattle.lefdef_tokens.proofs.runs.token_start.Given as goal

abbrev pub invariant-loop-pos : goal.invariant-loop-pos
invariant-loop-pos l = (l.from ≤ l.pos) × (l.pos ≤ length l.text) × (lex l.from between (drop l.from l.text) ≡ lex l.pos between (drop l.pos l.text))

abbrev pub decreases-loop-pos : goal.decreases-loop-pos
decreases-loop-pos l = length l.text - l.pos

use Rattle.std.proofs.Common.{◌≡◌, true, ◌≤◌, ◌<◌, ◌-◌, ◌+◌, ℕ, List, length, take}
use Rattle.statement_model.specs.Tokens.{left_from}
use Rattle.statement_model.specs.Boundaries.{Ending}
use Rattle.lefdef_tokens.specs.TokenViews.{end_after}
use Rattle.lefdef_tokens.specs.Views.{token_of}
use Rattle.statement_reader.specs.Endings.{ending_view}
use Rattle.statement_reader.proofs.Cutting.{Going}
use Rattle.statement_reader.proofs.boundary.statement_run.Given as goal

abbrev pub invariant-loop-done : goal.invariant-loop-done
invariant-loop-done l = record {
  further : l.pos < l.at;
  within : l.at ≤ length l.text;
  few : l.later < l.at;
  end : l.done ≡ true → end_after (l.first.pos + length l.first.bytes.now) (take l.later (left_from l.text l.second).pieces) ≡ l.at;
  going : (e : List ℕ → Ending) → e l.first.bytes.now ≡ ending_view l.ending → Going e (left_from l.text l.pos) (token_of l.first) (left_from l.text l.second) l.done l.later (left_from l.text l.at);
}

abbrev pub decreases-loop-done : goal.decreases-loop-done
decreases-loop-done l = length l.text - l.at

use Rattle.std.proofs.Common.{◌≡◌, length}
use Rattle.std.specs.List.{list_any}
use Rattle.design_text.specs.DesignTexts.{is_listing, says_one, statement_under}
use Rattle.design_text.proofs.text.DesignText.one_lists.Given as goal

abbrev pub invariant-loop-id : goal.invariant-loop-id
invariant-loop-id g l = list_any (λ id. says_one (is_listing l.owner l.pin) (statement_under l.self id)) l.initial.left ≡ list_any (λ id. says_one (is_listing l.owner l.pin) (statement_under l.self id)) l.left

abbrev pub decreases-loop-id : goal.decreases-loop-id
decreases-loop-id g l = length l.left

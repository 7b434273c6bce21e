use Rattle.std.proofs.Common.{◌∙◌}
use Rattle.lefdef_tokens.proofs.Lexing.{left_at_end}
use Rattle.lefdef_tokens.proofs.step.token_bounds.Goals as goal

pub returns-then-start-text : goal.returns-then-start-text
returns-then-start-text c = c.in_ok-start.ensures.goes.2 ∙ left_at_end c.args.text.now c.in_ok-start.start c.if-start-text.true

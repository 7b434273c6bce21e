use Rattle.std.proofs.Common.{arith, sym, ◌∙◌}
use Rattle.lefdef_tokens.proofs.ExpectedWords.{mark_stands}
use Rattle.lefdef_tokens.proofs.expected.mark_at.Goals as goal

pub returns-then-is_white : goal.returns-then-is_white
returns-then-is_white c =
    mark_stands c.args.text.now c.args.from c.args.mark c.requires.high c.requires.low (omega arith) (omega arith) (omega arith) (sym c.is_white.ensures ∙ c.if-is_white.true)

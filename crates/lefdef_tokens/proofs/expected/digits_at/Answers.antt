use Rattle.std.proofs.Common.{arith}
use Rattle.lefdef_tokens.proofs.ExpectedWords.{digits_stand}
use Rattle.lefdef_tokens.proofs.expected.digits_at.Goals as goal

pub returns-then-text-end-eq32 : goal.returns-then-text-end-eq32
returns-then-text-end-eq32 c =
    digits_stand c.args.text.now c.args.from c.digit_run-count.result (omega arith) (omega arith) (omega arith) (omega arith) c.digit_run-count.ensures (omega arith)

use Rattle.std.proofs.Common.{arith}
use Rattle.unit_numbers.proofs.Shorts.{short_body}
use Rattle.unit_numbers.proofs.whole_text.is_short.Goals as goal

pub returns : goal.returns
returns c = λ yes. short_body c.args.text.now c.split_sign.result.1.now c.loop-byte.byte-index c.split_sign.ensures.body (omega arith) (omega arith) (omega arith) c.loop-byte.invariant

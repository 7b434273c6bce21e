use Rattle.std.proofs.Common.{arith}
use Rattle.script_lines.proofs.EscapeLemmas.{counting_more, counting_end, empty_of_length}
use Rattle.script_lines.proofs.escape.checked.Goals as goal

pub loop-later-preserved : goal.loop-later-preserved
loop-later-preserved c = record {
  so_far = counting_more c.args.raw.now c.loop-later.rest.now _ _ c.in-Some.field-0-0 c.loop-later.invariant.so_far c.in-Some.ensures.0;
  few = omega (arith, c.loop-later.invariant.few, c.in-Some.ensures.1);
}

pub invariant_of-result : goal.invariant_of-result
invariant_of-result c = record { good = counting_end c.args.raw.now c.loop-later.rest.now _ c.loop-later.invariant.so_far (empty_of_length c.loop-later.rest.now c.if-is_empty.ensures) }

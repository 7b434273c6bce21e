use Rattle.std.proofs.Common.{arith}
use Rattle.lefdef_tokens.proofs.StopLemmas.{none_marked, first_marked}
use Rattle.lefdef_tokens.proofs.stops.first_stop.Goals as goal

pub returns-then-marks-ne0 : goal.returns-then-marks-ne0
returns-then-marks-ne0 c =
    first_marked c.args.low c.args.text.now c.args.from c.loop-pos.pos c.args.end c.marks-marks.result c.lowest.result c.marks-marks.ensures c.lowest.ensures.set c.lowest.ensures.below (omega arith) (omega arith) c.loop-pos.invariant.before

pub loop-pos-preserved : goal.loop-pos-preserved
loop-pos-preserved c = record {
  low = omega arith;
  high = omega arith;
  before = none_marked c.args.low c.args.text.now c.args.from c.loop-pos.pos c.marks-marks.result c.marks-marks.ensures (omega arith) c.loop-pos.invariant.before;
}

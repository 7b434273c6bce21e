use Rattle.std.proofs.Common.{ap, arith, length, ◌∙◌}
use Rattle.kept_lines.proofs.PlaceLemmas.{kinds_left}
use Rattle.kept_lines.proofs.TurnLemmas.{length-put, one_more_come}
use Rattle.kept_lines.proofs.kept.KeptLines.put_all.Goals as goal

pub loop-line-preserved : goal.loop-line-preserved
loop-line-preserved g c = record {
  come = rw c.put.ensures.lines (one_more_come c.loop-line.put.items c.pop.new.self.items c.in-Some.line c.loop-line.self.lines _ c.in-Some.ensures.items c.loop-line.invariant.come);
  kinds = (kinds_left _ _ _ c.in-Some.ensures.items c.loop-line.invariant.kinds).0;
  fits = omega (arith, length-put c.in-Some.line.text c.loop-line.self.lines, ap length c.put.ensures.lines, c.in-Some.ensures.len, c.put.ensures.room, c.loop-line.invariant.fits);
  room = c.put.ensures.room ∙ c.loop-line.invariant.room;
}

pub put-requires-clause-kind : goal.put-requires-clause-kind
put-requires-clause-kind g c = (kinds_left _ _ _ c.in-Some.ensures.items c.loop-line.invariant.kinds).1

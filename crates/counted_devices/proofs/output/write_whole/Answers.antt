use Rattle.std.proofs.Common.{rules}
use Rattle.counted_devices.proofs.KnownSteps.{writes_more, writes_more_left, writes_kept}
use Rattle.counted_devices.proofs.output.write_whole.Goals as goal

pub returns-in-Ok-eq0-clause-err : goal.returns-in-Ok-eq0-clause-err
returns-in-Ok-eq0-clause-err g c =
    let (done, split, appended) = c.loop-rest.invariant.written in
    let w = writes_more _ _ _ _ done _ c.in-Ok-eq0.field-0 split appended c.in-Ok-eq0.ensures.bytes in
    (w.0, _, w.1, w.2)

pub loop-rest-preserved-in-Ok : goal.loop-rest-preserved-in-Ok
loop-rest-preserved-in-Ok g c =
    let (done, split, appended) = c.loop-rest.invariant.written in
    record {
      written = writes_more_left _ _ _ _ done _ c.in-Ok.n split appended c.in-Ok.ensures.bytes;
      spent = search rules;
      rises = search rules;
      hard = search rules;
    }

pub returns-then-ne-clause-err : goal.returns-then-ne-clause-err
returns-then-ne-clause-err g c =
    let (done, split, appended) = c.loop-rest.invariant.written in
    writes_kept _ _ _ _ done _ split appended c.in-Err.ensures.bytes

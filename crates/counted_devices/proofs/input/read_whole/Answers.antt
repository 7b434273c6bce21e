use Rattle.std.proofs.Common.{rules, arith}
use Rattle.counted_devices.proofs.TurnSteps.{so_far_bytes, so_far_interrupted, spends_known}
use Rattle.counted_devices.proofs.input.read_whole.Goals.{in-Bytes+else-len-limit, in-Interrupted}
use Rattle.counted_devices.proofs.input.read_whole.Goals as goal

pub loop-preserved : goal.loop-preserved
loop-preserved g c =
    elim c.match-branch-2.branch [
      | in-Bytes+else-len-limit w ↦ record {
        so_far = so_far_bytes _ _ _ _ _ _ _ _ _ _ c.loop.invariant.so_far (search rules) (search rules) (search rules);
        hard = search rules;
        room = search rules;
      }
      | in-Interrupted w ↦ record {
        so_far = so_far_interrupted _ _ _ _ _ _ _ _ _ _ c.loop.invariant.so_far (search rules) (search rules) (search rules);
        hard = search rules;
        room = search rules;
      }
    ]

pub returns-clause-endless_known : goal.returns-clause-endless_known
returns-clause-endless_known g c = λ _. spends_known _ _ _ _ _ _ c.loop.invariant.so_far.taken (omega (arith, c.loop-test.false, c.loop.invariant.so_far.spent))

use Rattle.std.proofs.Common.{◌≡◌, length}
use Rattle.counted_devices.proofs.TurnSteps.{SoFar}
use Rattle.counted_devices.proofs.input.read_up_to.Given as goal

abbrev pub invariant-loop : goal.invariant-loop
invariant-loop g l = record {
  so_far : SoFar (g.R.Read.remaining l.initial.reader) (g.R.Read.remaining l.reader) l.enough l.all.items l.counter (g.R.Failures.failed l.initial.reader) (g.R.Failures.failed l.reader);
  hard : g.R.Failures.failed_hard l.reader ≡ g.R.Failures.failed_hard l.initial.reader;
  room : length l.buf ≡ 4096;
}

use Rattle.std.proofs.Common.{◌≡◌, ◌≤◌, ◌+◌, ◌++◌, ℕ, List, length}
use Rattle.std.specs.Io.KnownBytes.{Appends}
use Rattle.counted_devices.proofs.output.write_whole.Given as goal

abbrev pub invariant-loop-rest : goal.invariant-loop-rest
invariant-loop-rest g l = record {
  written : (done : List ℕ) × (l.bytes ≡ done ++ l.rest) × Appends (g.W.Write.contents l.initial.out) (g.W.Write.contents l.out) done;
  spent : g.W.Failures.failed l.out + l.patience ≡ g.W.Failures.failed l.initial.out + l.initial.patience;
  rises : g.W.Failures.failed l.initial.out ≤ g.W.Failures.failed l.out;
  hard : g.W.Failures.failed_hard l.out ≡ g.W.Failures.failed_hard l.initial.out;
}

abbrev pub decreases-loop-rest : goal.decreases-loop-rest
decreases-loop-rest g l = length l.rest + l.patience

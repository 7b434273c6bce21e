use Rattle.std.proofs.Common.{length, ◌+◌, ◌≡◌}
use Rattle.kept_lines.proofs.TurnLemmas.{HaveGone}
use Rattle.kept_lines.proofs.kept.KeptLines.take_all.Given as goal

abbrev pub invariant-loop-line : goal.invariant-loop-line
invariant-loop-line g l = record {
  gone : HaveGone l.out l.line-index l.fn.self.lines l.self.lines;
  len : length l.self.lines + l.line-index ≡ length l.fn.self.lines;
  room : l.self.room ≡ l.fn.self.room;
}

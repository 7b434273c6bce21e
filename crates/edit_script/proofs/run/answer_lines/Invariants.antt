use Rattle.std.proofs.Common.{◌≡◌, ◌≤◌, ◌+◌, length}
use Rattle.std.specs.Prelude.{IsOk}
use Rattle.def_grammar.specs.Records.{read_def}
use Rattle.edit_script.specs.Answered.{counts_of}
use Rattle.script_lines.specs.Parts.{lines_left}
use Rattle.edit_script.proofs.OutputLemmas.{Answered}
use Rattle.edit_script.proofs.run.answer_lines.Given as goal

abbrev pub invariant-loop-rest : goal.invariant-loop-rest
invariant-loop-rest g l = record {
  answered : Answered l.initial.session.library l.initial.session.text l.script l.number (lines_left l.rest) (g.W.Write.contents l.initial.out) (g.W.Write.contents l.out) l.session.text (counts_of l.tally);
  library : l.session.library ≡ l.initial.session.library;
  reads : IsOk (read_def l.session.text);
  few_lines : l.number + length (lines_left l.rest) ≤ length l.script + 1;
  spent : g.W.Failures.failed l.out + l.patience ≡ g.W.Failures.failed l.initial.out + 33554431;
  rises : g.W.Failures.failed l.initial.out ≤ g.W.Failures.failed l.out;
  hard : g.W.Failures.failed_hard l.out ≡ g.W.Failures.failed_hard l.initial.out;
  accepted : l.tally.accepted ≤ l.number;
  refused : l.tally.refused ≤ l.number;
  bad : l.tally.bad ≤ l.number;
}

abbrev pub decreases-loop-rest : goal.decreases-loop-rest
decreases-loop-rest g l = length (lines_left l.rest)

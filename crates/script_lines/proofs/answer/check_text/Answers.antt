use Rattle.std.proofs.Common.{arith, length, refl}
use Rattle.script_lines.proofs.AnswerLemmas.{report_text}
use Rattle.script_lines.proofs.answer.check_text.Goals as goal

pub returns : goal.returns
returns g c =
    rw (c.in_ok-push-2.ensures.items, c.in_ok-push_number.ensures, c.in_ok-extend_from_slice-2.ensures.items)
    (report_text c.loop-line.text.items c.args.lines.now c.loop-line.line-index (length c.args.lines.now) c.loop-line.invariant (omega (arith, c.loop-line-test.false)) refl)

use Rattle.std.proofs.Common.{rules, arith, ap, ◌∙◌, length}
use Rattle.script_lines.specs.Parts.{lines_left}
use Rattle.edit_script.proofs.OutputLemmas.{answered_start, answered_more, answered_part, answered_cut, length-script_lines}
use Rattle.edit_script.proofs.run.answer_lines.Goals as goal

pub loop-rest-init : goal.loop-rest-init
loop-rest-init g c = record {
  answered = answered_start _ _ c.args.script.now _;
  library = search rules;
  reads = search rules;
  few_lines = omega (arith, length-script_lines c.args.script.now);
  spent = search rules;
  rises = search rules;
  hard = search rules;
  accepted = search rules;
  refused = search rules;
  bad = search rules;
}

pub returns-in_default-answer-clause-err : goal.returns-in_default-answer-clause-err
returns-in_default-answer-clause-err g c = answered_part _ _ c.args.script.now _ _ _ _ _ _ c.loop-rest.invariant.reads c.loop-rest.invariant.answered

pub returns-in-Err-clause-err : goal.returns-in-Err-clause-err
returns-in-Err-clause-err g c =
    answered_cut _ _ _ c.args.script.now _ _ _ c.next_line.result.0.now _ _ _ _ _ _ _ _ c.loop-rest.invariant.answered (ap lines_left c.in-Some.is ∙ c.next_line.ensures) c.loop-rest.invariant.library
    c.in-Ok.ensures.gives c.answer.ensures.reads (rw c.as_slice.ensures.value at c.in-Err.ensures.err)

pub loop-rest-preserved : goal.loop-rest-preserved
loop-rest-preserved g c =
    let next = ap lines_left c.in-Some.is ∙ c.next_line.ensures in
    record {
      answered =
          answered_more _ _ _ c.args.script.now _ _ _ c.next_line.result.0.now _ _ _ _ _ c.loop-rest.invariant.answered next _ _ _ c.loop-rest.invariant.library c.in-Ok.ensures.gives
          (rw c.as_slice.ensures.value at c.in_default-write_whole.ensures.ok);
      library = search rules;
      reads = search rules;
      few_lines = omega (arith, ap length next, c.loop-rest.invariant.few_lines);
      spent = search rules;
      rises = search rules;
      hard = search rules;
      accepted = search rules;
      refused = search rules;
      bad = search rules;
    }

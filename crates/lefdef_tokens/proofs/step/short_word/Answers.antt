use Rattle.std.proofs.Common.{◌+◌, arith}
use Rattle.lefdef_tokens.proofs.ShortWords.{short_word}
use Rattle.lefdef_tokens.proofs.WindowSteps.{leading}
use Rattle.lefdef_tokens.proofs.step.short_word.Goals as goal

pub bounds-text-start : goal.bounds-text-start
bounds-text-start c =
    let leads = leading c.args.text.now c.args.from c.low_marks-marks.result c.trailing_ones.result (omega arith) c.low_marks-marks.ensures c.trailing_ones.ensures in
    let few = leads.few in
    omega arith

pub next_low-requires-clause-near : goal.next_low-requires-clause-near
next_low-requires-clause-near c =
    let leads = leading c.args.text.now c.args.from c.low_marks-marks.result c.trailing_ones.result (omega arith) c.low_marks-marks.ensures c.trailing_ones.ensures in
    let few = leads.few in
    omega arith

pub returns : goal.returns
returns c =
    let leads = leading c.args.text.now c.args.from c.low_marks-marks.result c.trailing_ones.result (omega arith) c.low_marks-marks.ensures c.trailing_ones.ensures in
    let next = c.in_ok-end.ensures in
    short_word c.args.text.now c.args.from (c.args.from + c.trailing_ones.result) c.in_ok-end.end (omega arith) next.after next.within leads.blank (omega arith) next.inside next.here c.requires.some

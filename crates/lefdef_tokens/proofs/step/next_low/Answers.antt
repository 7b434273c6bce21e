use Rattle.std.proofs.Common.{arith}
use Rattle.lefdef_tokens.proofs.WindowSteps.{next_near, next_far}
use Rattle.lefdef_tokens.proofs.step.next_low.Goals as goal

pub returns-then-later-ne0 : goal.returns-then-later-ne0
returns-then-later-ne0 c =
    next_near c.args.text.now c.args.from c.args.start c.args.marks c.requires.room c.requires.marks c.ranges.marks.fits c.requires.low c.requires.near c.requires.high (omega arith)

pub returns-then-marks-ne0 : goal.returns-then-marks-ne0
returns-then-marks-ne0 c =
    next_far c.args.text.now c.args.from c.args.start c.args.marks c.requires.room c.requires.marks c.ranges.marks.fits c.requires.low c.requires.near c.requires.high
    c.low_marks-marks.result (omega arith) c.low_marks-marks.ensures (omega arith) (omega arith)

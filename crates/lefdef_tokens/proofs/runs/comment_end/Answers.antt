use Rattle.std.proofs.Common.{arith}
use Rattle.lefdef_tokens.proofs.Lexing.{comment_bad, comment_good}
use Rattle.lefdef_tokens.proofs.runs.comment_end.Goals as goal

pub returns-in-Some-clause-goes : goal.returns-in-Some-clause-goes
returns-in-Some-clause-goes c =
    rw c.refused.ensures (comment_bad c.args.text.now c.args.start c.line_end-end.result c.in-Some.pos c.requires.within c.requires.sign c.line_end-end.ensures c.in-Some.ensures)

pub returns-in-None-clause-goes : goal.returns-in-None-clause-goes
returns-in-None-clause-goes c =
    let low = c.line_end-end.ensures.low in
    let high = c.line_end-end.ensures.high in
    (omega arith, omega arith, comment_good c.args.text.now c.args.start c.line_end-end.result c.requires.within c.requires.sign c.line_end-end.ensures c.in-None.ensures)

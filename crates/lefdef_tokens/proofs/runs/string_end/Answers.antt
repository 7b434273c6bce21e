use Rattle.std.proofs.Common.{arith, length, le_refl}
use Rattle.lefdef_tokens.proofs.Lexing.{string_bad, string_good, string_no_end}
use Rattle.lefdef_tokens.proofs.runs.string_end.Goals as goal

pub returns-in-Some-find_refused-clause-goes : goal.returns-in-Some-find_refused-clause-goes
returns-in-Some-find_refused-clause-goes c =
    let closing = c.in-Some.ensures in
    let high = closing.high in
    rw c.refused.ensures (string_bad c.args.text.now c.args.start c.in-Some.quote c.in-Some-find_refused.pos c.requires.within c.requires.quote (omega arith) closing.inside c.in-Some-find_refused.ensures)

pub returns-in-None-find_refused-clause-goes : goal.returns-in-None-find_refused-clause-goes
returns-in-None-find_refused-clause-goes c =
    let closing = c.in-Some.ensures in
    let low = closing.low in
    let high = closing.high in
    (omega arith, omega arith, string_good c.args.text.now c.args.start c.in-Some.quote c.requires.within c.requires.quote closing c.in-None-find_refused.ensures)

pub returns-in-Some-find_refused-2-clause-goes : goal.returns-in-Some-find_refused-2-clause-goes
returns-in-Some-find_refused-2-clause-goes c =
    rw c.refused-in-Some-find_refused-2.ensures (string_bad c.args.text.now c.args.start (length c.args.text.now) c.in-Some-find_refused-2.pos c.requires.within c.requires.quote (le_refl _) c.in-None.ensures c.in-Some-find_refused-2.ensures)

pub returns-in-None-find_refused-2-clause-goes : goal.returns-in-None-find_refused-2-clause-goes
returns-in-None-find_refused-2-clause-goes c = string_no_end c.args.text.now c.args.start c.requires.within c.requires.quote c.in-None.ensures c.in-None-find_refused-2.ensures

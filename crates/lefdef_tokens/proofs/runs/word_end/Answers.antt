use Rattle.std.proofs.Common.{sym, ◌∙◌, arith, le_refl}
use Rattle.lefdef_tokens.proofs.Lexing.{word_refused, word_before_white, word_to_end}
use Rattle.lefdef_tokens.proofs.runs.word_end.Goals as goal

pub returns-then-is_white-clause-goes : goal.returns-then-is_white-clause-goes
returns-then-is_white-clause-goes c =
    let stop = c.in-Some.ensures in
    let low = stop.0.low in
    let high = stop.0.high in
    (omega arith, omega arith, word_before_white c.args.text.now c.args.start c.in-Some.pos c.requires.within c.requires.begins c.requires.no_quote stop (sym c.is_white.ensures ∙ c.if-is_white.true))

pub returns-else-is_white-clause-goes : goal.returns-else-is_white-clause-goes
returns-else-is_white-clause-goes c =
    rw c.refused.ensures (word_refused c.args.text.now c.args.start c.in-Some.pos c.requires.within c.requires.begins c.requires.no_quote c.in-Some.ensures (sym c.is_white.ensures ∙ c.if-is_white.false))

pub returns-in-None-clause-goes : goal.returns-in-None-clause-goes
returns-in-None-clause-goes c = (omega arith, le_refl _, word_to_end c.args.text.now c.args.start c.requires.within c.requires.begins c.requires.no_quote c.in-None.ensures)

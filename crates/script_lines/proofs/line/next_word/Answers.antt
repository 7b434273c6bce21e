use Rattle.script_lines.proofs.LineLemmas.{first_word, behind_first, no_word}
use Rattle.script_lines.proofs.line.next_word.Goals as goal

pub returns-then-len-eq0 : goal.returns-then-len-eq0
returns-then-len-eq0 c = no_word c.args.line.now _ _ c.without_blanks-words.ensures c.word_len-len.ensures.all c.if-len-eq0.true

pub returns : goal.returns
returns c =
    (first_word c.args.line.now _ _ c.without_blanks-words.ensures c.word_len-len.ensures.all c.if-len-eq0.false, behind_first c.args.line.now _ _ c.without_blanks-words.ensures c.word_len-len.ensures.all)

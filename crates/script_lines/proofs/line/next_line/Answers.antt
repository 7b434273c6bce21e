use Rattle.script_lines.proofs.LineLemmas.{first_line, last_line}
use Rattle.script_lines.proofs.line.next_line.Goals as goal

pub returns-then-len-text : goal.returns-then-len-text
returns-then-len-text c = last_line c.args.text.now _ c.line_len-len.ensures.all c.if-len-text.true

pub returns : goal.returns
returns c = rw c.trimmed.ensures (first_line c.args.text.now _ c.line_len-len.ensures.all c.line_len-len.ensures.within c.if-len-text.false)

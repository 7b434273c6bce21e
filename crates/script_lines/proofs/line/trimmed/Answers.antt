use Rattle.script_lines.proofs.LineLemmas.{trimmed_return, trimmed_other}
use Rattle.script_lines.proofs.line.trimmed.Goals as goal

pub returns-then-line-len-eq13 : goal.returns-then-line-len-eq13
returns-then-line-len-eq13 c = trimmed_return _ c.if-len-eq0.false c.if-line-len-eq13.true

pub returns : goal.returns
returns c = trimmed_other _ c.if-len-eq0.false c.if-line-len-eq13.false

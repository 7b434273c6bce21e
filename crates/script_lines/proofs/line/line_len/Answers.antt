use Rattle.script_lines.proofs.FeedLemmas.{found, none}
use Rattle.script_lines.proofs.line.line_len.Goals as goal

pub returns-in-Some-clause-all : goal.returns-in-Some-clause-all
returns-in-Some-clause-all c = found c.args.text.now c.in-Some.len c.in-Some.ensures

pub returns-in-None-clause-all : goal.returns-in-None-clause-all
returns-in-None-clause-all c = none c.args.text.now c.in-None.ensures

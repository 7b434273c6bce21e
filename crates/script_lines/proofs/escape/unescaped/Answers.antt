use Rattle.script_lines.proofs.EscapeLemmas.{unescaped_all}
use Rattle.script_lines.proofs.escape.unescaped.Goals as goal

pub returns : goal.returns
returns g c = unescaped_all c.args.escaped.raw.now _ c.loop-byte.rest.now _ c.args.escaped.good c.loop-byte.invariant c.in_default.ensures

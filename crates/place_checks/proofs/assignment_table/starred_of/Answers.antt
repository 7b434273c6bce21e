use Rattle.place_checks.proofs.PatternLemmas.{has_star_or_none}
use Rattle.place_checks.proofs.assignment_table.starred_of.Goals as goal

pub returns : goal.returns
returns c = has_star_or_none c.args.pattern.now c.of.result c.of.ensures

use Rattle.kept_lines.proofs.MergeLemmas.{second_ends}
use Rattle.kept_lines.proofs.merged.lesser.Goals as goal

pub returns-in_default-get : goal.returns-in_default-get
returns-in_default-get g c =
    second_ends c.args.first.now c.args.second.now c.args.first_at c.args.second_at c.in-Some.line.now c.in-Some.ensures.lookup.3.0 c.in-Some.ensures.lookup.1 c.in_default-get.ensures.lookup.3

use Rattle.std.proofs.Common.{◌∙◌}
use Rattle.def_splice.proofs.LyingLemmas.{change_moved}
use Rattle.def_splice.proofs.lying.Lying.change_splice.Goals as goal

pub returns-clause-cut : goal.returns-clause-cut
returns-clause-cut g c = λ text lies.
    c.moved.ensures.cut ∙ change_moved text c.args.self lies c.args.before c.args.taken c.args.put.now c.requires.some c.requires.tokens c.in_ok-splice.splice c.in_ok-splice.ensures.cut c.in_ok-splice.ensures.within.1

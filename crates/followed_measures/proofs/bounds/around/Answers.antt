use Rattle.std.proofs.Common.{rules}
use Rattle.design_model.specs.Views.{rectangle_of}
use Rattle.followed_measures.proofs.BoxLemmas.{around_is}
use Rattle.followed_measures.proofs.bounds.around.Goals as goal

pub returns : goal.returns
returns c =
    around_is (rectangle_of c.args.a) (rectangle_of c.args.b) _ _ _ _
    (search rules) (search rules) (search rules) (search rules)

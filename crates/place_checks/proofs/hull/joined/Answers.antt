use Rattle.std.proofs.Common.{rules}
use Rattle.design_model.specs.Views.{rectangle_of}
use Rattle.place_checks.proofs.HullLemmas.{joined_is}
use Rattle.place_checks.proofs.hull.joined.Goals as goal

pub returns : goal.returns
returns c =
    joined_is (rectangle_of c.args.a) (rectangle_of c.args.b.now) _ _ _ _
    (search rules) (search rules) (search rules) (search rules)

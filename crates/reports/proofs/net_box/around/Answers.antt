use Rattle.std.proofs.Common.{rules}
use Rattle.design_model.specs.Views.{rectangle_of}
use Rattle.reports.proofs.BoxSteps.{around_is}
use Rattle.reports.proofs.net_box.around.Goals as goal

pub returns : goal.returns
returns c =
    around_is (rectangle_of c.args.a) (rectangle_of c.args.b) _ _ _ _
    (search rules) (search rules) (search rules) (search rules)

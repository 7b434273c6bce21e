use Rattle.std.proofs.Common.{ap, map}
use Rattle.followed_nets.specs.ToldViews.{tests_of, told_view}
use Rattle.followed_nets.proofs.ToldNets.{none_touched}
use Rattle.followed_nets.proofs.touched.TouchedNets.none.Goals as goal

pub returns-clause-touched : goal.returns-clause-touched
returns-clause-touched g c library design =
    none_touched library design c.new.result.items (map told_view c.new-2.result.items) (tests_of c.new-2.result.items) c.new.ensures.items (ap (map told_view) c.new-2.ensures.items) (ap tests_of c.new-2.ensures.items)

use Rattle.std.proofs.Common.{◌≡◌, ◌∙◌, List, ap, arith, flat_map, map}
use Rattle.connection_rules.specs.NetLines.{shapes_of_net}
use Rattle.connection_rules.specs.NetParts.{Net}
use Rattle.net_lists.specs.PartCuts.{shape_view}
use Rattle.net_checks.specs.NearWithin.{near_themselves}
use Rattle.followed_nets.specs.Tests.{plain}
use Rattle.followed_nets.proofs.OwnPairs.{near_in_all}
use Rattle.followed_nets.proofs.told.told_by.Goals as goal

pub returns-clause-tests : goal.returns-clause-tests
returns-clause-tests g c =
    let nets = c.args.drawing.now.nets in
    let own : map shape_view c.in_ok-shapes.shapes.items ≡ plain (flat_map shapes_of_net nets) =
    ap (map shape_view) c.in_ok-shapes.ensures.items ∙ c.shapes.ensures ∙ ap (λ (ns : List Net). plain (flat_map shapes_of_net ns)) c.nets.ensures in
    let same = ap near_themselves own in
    let most = near_in_all nets in
    let few = c.in_ok-lines.ensures.tests in
    omega (arith, few, most, same)

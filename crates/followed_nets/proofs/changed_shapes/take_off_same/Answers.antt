use Rattle.std.proofs.Common.{◌++◌}
use Rattle.followed_nets.proofs.LackingLemmas.{both_ends}
use Rattle.followed_nets.proofs.changed_shapes.take_off_same.Goals as goal

pub returns : goal.returns
returns g c =
    let once = c.in_ok-take_off_ends.ensures in
    let twice = c.in_ok-take_off_ends-2.ensures in
    (twice.0 ++ once.0, both_ends _ _ _ _ once.0 twice.0 once.1 c.turn_round.ensures twice.1, both_ends _ _ _ _ once.0 twice.0 once.2 c.turn_round-2.ensures twice.2)

use Rattle.std.proofs.Common.{◌≡◌, ◌∙◌, ◌++◌, ◌≤◌, List, arith, map}
use Rattle.design_text.specs.Exchanges.{records_in}
use Rattle.followed_nets.specs.Noted.{said}
use Rattle.followed_nets.proofs.NearPairs.{near_walls}
use Rattle.followed_nets.proofs.followed.FollowedNets.follow.Goals as goal

pub follow_nets-requires : goal.follow_nets-requires
follow_nets-requires g c = c.requires

pub follow_blocked-requires : goal.follow_blocked-requires
follow_blocked-requires g c =
    (c.requires.0, c.requires.1, rw (c.in-Some.is) at (c.in_ok-followed.ensures.lines c.requires.0 c.requires.1 c.requires.2 c.requires.3))

pub returns-clause-lines : goal.returns-clause-lines
returns-clause-lines g c = λ old exchanges touched followed.
    let step = rw (c.in-Some.is) at (c.in_ok-followed.ensures.lines old exchanges touched followed) in
    rw (c.in-Some-2.is) at (c.in_ok-found.ensures.lines old exchanges step)

pub returns-clause-tests : goal.returns-clause-tests
returns-clause-tests g c = λ old exchanges touched followed.
    let library = c.args.library.now in
    let new = said (records_in c.args.text.now) in
    let step = rw (c.in-Some.is) at (c.in_ok-followed.ensures.lines old exchanges touched followed) in
    let few = rw (c.in-Some.is) at (c.in_ok-followed.ensures.tests old exchanges touched followed) in
    let more = rw (c.in-Some-2.is) at (c.in_ok-found.ensures.tests old exchanges) in
    let near = near_walls library new c.follow_nets.new.self.shapes step.nets.shapes_are (more.gone ++ more.come) in
    record {
      gone = more.gone;
      come = more.come;
      changed = more.changed;
      apart = more.apart;
      few = omega (arith, few, more.few, near);
    }

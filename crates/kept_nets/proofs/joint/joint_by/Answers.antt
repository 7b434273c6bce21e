use Rattle.std.proofs.Common.{rules, map}
use Rattle.kept_nets.specs.Parts.{part_view}
use Rattle.kept_nets.proofs.NearParts.{joined_at_more}
use Rattle.kept_nets.proofs.joint.joint_by.Goals as goal

pub returns-then-branch-clause-joint : goal.returns-then-branch-clause-joint
returns-then-branch-clause-joint g c =
    let pin = part_view c.args.part.now in
    let others = map part_view c.args.parts.now in
    let places = c.in_ok-places.places.items in
    let within = rw c.deref.ensures.value at (c.in_ok-is_within.ensures.within (search (rules, c.if-branch.true))) in
    (c.requires.pin, c.few_tell.ensures pin others places c.requires.pin (joined_at_more pin others c.args.near.now c.loop-round.more.items places c.in_ok-places.ensures c.requires.near) within)

use Rattle.std.proofs.Common.{rules, ◌≡◌, true, arith, length, map}
use Rattle.std.proofs.lemmas.Result.{IfOk-weaker}
use Rattle.kept_nets.specs.Parts.{part_view}
use Rattle.kept_nets.proofs.NearParts.{joined_are_near, no_places, none_near}
use Rattle.kept_nets.proofs.Telling.{near_counted}
use Rattle.kept_nets.proofs.joint.joint_of.Goals as goal

pub returns-then-is_empty-clause-joint : goal.returns-then-is_empty-clause-joint
returns-then-is_empty-clause-joint g c =
    let pin = part_view c.args.part.now in
    let others = map part_view c.args.parts.now in
    let near = c.in-Some.near.items in
    let is_pin : c.args.part.now.is_pin ≡ true = search rules in
    let size : length c.in-Some.near.items ≡ 0 = grind (arith, c.is_empty.ensures) in
    let none = no_places near size in
    let joined = joined_are_near pin others c.args.shapes.now near c.requires.same (rw (c.in-Some.is, c.as_slice.ensures.value) at c.in_ok-near.ensures.places) in
    (is_pin, c.alone_is_a_class.ensures pin others is_pin (none_near pin others near none joined))

pub joint_by-requires-clause-near : goal.joint_by-requires-clause-near
joint_by-requires-clause-near g c =
    rw (c.deref.ensures.value) (joined_are_near (part_view c.args.part.now) (map part_view c.args.parts.now) c.args.shapes.now c.in-Some.near.items c.requires.same (rw (c.in-Some.is, c.as_slice.ensures.value) at c.in_ok-near.ensures.places))

pub returns-then-is_empty-clause-least : goal.returns-then-is_empty-clause-least
returns-then-is_empty-clause-least g c = λ known.
    near_counted c.args.shapes.now (part_view c.args.part.now) (map part_view c.args.parts.now) c.args.looks.now.tests c.touched_within.new.looks.tests c.requires.same (rw (c.in-Some.is, c.as_slice.ensures.value) at c.in_ok-near.ensures.least)

pub returns-clause-least : goal.returns-clause-least
returns-clause-least g c =
    let counted = near_counted c.args.shapes.now (part_view c.args.part.now) (map part_view c.args.parts.now) c.args.looks.now.tests c.touched_within.new.looks.tests c.requires.same (rw (c.in-Some.is, c.as_slice.ensures.value) at c.in_ok-near.ensures.least) in
    IfOk-weaker c.joint_by.result _ _ (λ j hangs known. let more = c.joint_by.ensures.more in omega (arith, counted, more)) c.joint_by.ensures.joint

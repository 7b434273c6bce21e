use Rattle.std.proofs.Common.{◌∙◌, ◌≤◌, arith, length, map, refl}
use Rattle.kept_nets.specs.Parts.{part_view}
use Rattle.kept_nets.proofs.Telling.{all_out, begins, next_out}
use Rattle.kept_nets.proofs.Taken.{taken_at}
use Rattle.kept_nets.proofs.net.KeptNet.take_out.Goals as goal

pub loop-part-init : goal.loop-part-init
loop-part-init g c = record {
  left = record { sums = λ w. refl };
  told = λ stay same. begins part_view c.args.told.now c.args.parts.now stay c.args.looks.now.tests;
  name = refl;
  power = refl;
}

pub loop-part-preserved : goal.loop-part-preserved
loop-part-preserved g c =
    let parts = c.args.parts.now in
    record {
      left =
          taken_at part_view parts c.loop-part.part-index c.part-item.result c.args.self.now.parts (map part_view parts) c.loop-part.self.parts c.take_one.new.self.parts c.loop-part-test.true c.part-item.is
          c.loop-part.invariant.left
          (c.in_ok-take_one.ensures.out c.if-not-branch.false);
      told = λ stay.
          next_out part_view c.args.told.now c.loop-part.told c.take_one.new.told parts c.loop-part.part-index c.part-item.result c.loop-part.self.parts c.take_one.new.self.parts stay c.args.looks.now.tests c.loop-part.looks.tests c.take_one.new.looks.tests
          c.loop-part-test.true c.part-item.is
          (c.in_ok-take_one.ensures.out c.if-not-branch.false)
          (c.in_ok-take_one.ensures.told c.if-not-branch.false)
          c.loop-part.invariant.told;
      name = c.take_one.ensures.name ∙ c.loop-part.invariant.name;
      power = c.take_one.ensures.power ∙ c.loop-part.invariant.power;
    }

pub returns-clause-told : goal.returns-clause-told
returns-clause-told g c = λ there.
    let past : length c.args.parts.now ≤ c.loop-part.part-index = omega (arith, c.loop-part-test.false) in
    all_out part_view c.args.told.now c.loop-part.told c.args.parts.now c.loop-part.part-index c.loop-part.self.parts c.args.looks.now.tests c.loop-part.looks.tests past c.loop-part.invariant.told

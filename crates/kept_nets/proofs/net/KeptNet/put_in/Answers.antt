use Rattle.std.proofs.Common.{rules, ◌∙◌, arith, map, ◌++◌, refl}
use Rattle.std.proofs.lemmas.List.Sums.{sum_by-cons}
use Rattle.kept_nets.specs.Parts.{part_view}
use Rattle.kept_nets.proofs.Telling.{all_in, begins, next_in}
use Rattle.kept_nets.proofs.Known.{popped}
use Rattle.kept_nets.proofs.net.KeptNet.put_in.Goals as goal

pub loop-part-init : goal.loop-part-init
loop-part-init g c = record {
  same = record { sums = λ w. refl };
  more = λ w. omega arith;
  told = begins part_view c.args.told.now c.args.parts.items c.args.self.now.parts c.args.looks.now.tests;
  name = refl;
  power = refl;
}

pub loop-part-preserved : goal.loop-part-preserved
loop-part-preserved g c = record {
  same =
      popped part_view c.loop-part.parts.items c.pop.new.self.items c.in-Some.part c.loop-part.self.parts c.put_one.new.self.parts (map part_view c.args.parts.items ++ c.args.self.now.parts)
      c.in-Some.ensures.items
      c.loop-part.invariant.same
      c.in_ok-put_one.ensures.put;
  more = λ w. omega (arith, c.in_ok-put_one.ensures.put.sums w, c.loop-part.invariant.more w, sum_by-cons w (part_view c.in-Some.part) c.loop-part.self.parts);
  told =
      next_in part_view c.args.told.now c.loop-part.told c.put_one.new.told c.args.parts.items c.loop-part.parts.items c.pop.new.self.items c.in-Some.part c.args.self.now.parts c.loop-part.self.parts c.args.looks.now.tests c.loop-part.looks.tests
      c.put_one.new.looks.tests
      c.in-Some.ensures.items
      c.loop-part.invariant.more
      c.in_ok-put_one.ensures.told
      c.loop-part.invariant.told;
  name = c.put_one.ensures.name ∙ c.loop-part.invariant.name;
  power = c.put_one.ensures.power ∙ c.loop-part.invariant.power;
}

pub returns-clause-told : goal.returns-clause-told
returns-clause-told g c = all_in part_view c.args.told.now c.loop-part.told c.args.parts.items c.loop-part.parts.items c.args.self.now.parts c.args.looks.now.tests c.loop-part.looks.tests (search (rules, c.in_default.ensures.cases)) c.loop-part.invariant.told

use Rattle.std.proofs.Common.{rules, ◌<◌, ◌^◌, length, refl, sym, ap, ◌∙◌, arith}
use Rattle.slab.specs.Slab.{entries}
use Rattle.shape_index.specs.Shapes.{is_met, met_by, numbered}
use Rattle.shape_index.proofs.MetSteps.{counted, met_fewer, met_yes, met_no}
use Rattle.shape_index.proofs.plain.PlainShapesShapeSet.for_met.Goals as goal

pub loop-id-init : goal.loop-id-init
loop-id-init g c =
    let all = c.into_iter-id-iterator.ensures.into_iter_gives ∙ c.iter-id-items.ensures.rest in
    record {
      next = tt;
      finite = tt;
      callable = c.requires;
      counted = omega (arith, ap length all);
      few = search rules;
      least = omega (arith, ap (λ es. length (met_by c.args.layer c.args.rect (numbered es))) all);
      rest = λ last k. rw all at k;
    }

pub loop-id-preserved-then-is_met : goal.loop-id-preserved-then-is_met
loop-id-preserved-then-is_met g c = record {
  next = tt;
  finite = tt;
  callable = c.loop-id.invariant.callable;
  counted = grind (arith, ap length c.in-Some.ensures.steps, c.saturating_add-compared.ensures, c.loop-id.invariant.counted);
  few = c.loop-id.invariant.few;
  least = omega (arith, met_fewer (is_met c.args.layer c.args.rect) _ _ _ (ap numbered c.in-Some.ensures.steps), ap length c.in-Some.ensures.steps, c.saturating_add-compared.ensures, c.loop-id.invariant.counted, c.loop-id.invariant.few, c.loop-id.invariant.least);
  rest = λ last k. c.loop-id.invariant.rest last (met_yes _ (is_met c.args.layer c.args.rect) _ _ _ _ _ last (ap numbered c.in-Some.ensures.steps) (sym (c.is_met.ensures (record { 0 = c.in-Some.id })) ∙ c.if-is_met.true) (c.in-Some.shape, refl, c.f-acc.ensures) k);
}

pub loop-id-preserved : goal.loop-id-preserved
loop-id-preserved g c = record {
  next = tt;
  finite = tt;
  callable = c.loop-id.invariant.callable;
  counted = grind (arith, ap length c.in-Some.ensures.steps, c.saturating_add-compared.ensures, c.loop-id.invariant.counted);
  few = c.loop-id.invariant.few;
  least = omega (arith, met_fewer (is_met c.args.layer c.args.rect) _ _ _ (ap numbered c.in-Some.ensures.steps), ap length c.in-Some.ensures.steps, c.saturating_add-compared.ensures, c.loop-id.invariant.counted, c.loop-id.invariant.few, c.loop-id.invariant.least);
  rest = λ last k. c.loop-id.invariant.rest last (met_no _ (is_met c.args.layer c.args.rect) _ _ _ _ last (ap numbered c.in-Some.ensures.steps) (sym (c.is_met.ensures (record { 0 = c.in-Some.id })) ∙ c.if-is_met.false) k);
}

pub returns : goal.returns
returns g c = record {
  folded = (met_by c.args.layer c.args.rect _, record { sums = λ w. refl }, c.loop-id.invariant.rest _ (rw c.in-None.ensures.steps.0 refl));
  compared = omega (arith, ap length c.in-None.ensures.steps.0, c.loop-id.invariant.counted);
  least = omega (arith, counted (is_met c.args.layer c.args.rect) (numbered (entries c.args.self.now.shapes)), ap (λ es. length (met_by c.args.layer c.args.rect (numbered es))) c.in-None.ensures.steps.0, c.loop-id.invariant.least);
}

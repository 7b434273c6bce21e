use Rattle.std.proofs.Common.{rules, ◌≤◌, ◌<◌, ◌^◌, arith, ap, length, refl, sym, ◌∙◌}
use Rattle.shape_index.specs.TileOrder.{listed, once}
use Rattle.shape_index.proofs.Listed.{one_key, run_listed}
use Rattle.shape_index.proofs.Repeats.{once_short}
use Rattle.shape_index.proofs.TileSearch.{inside, met_fewer, met_here, not_here, met_later, met_end, met_past, over_same, over_none, changes_at, counted_here, counted_later, near_few}
use Rattle.shape_index.proofs.tile_order.search.Goals as goal

pub past_run-place-requires : goal.past_run-place-requires
past_run-place-requires g c = omega (arith, inside (listed c.args.shapes.now c.args.order.now) _ _ c.in-Some.ensures, c.requires.all_there)

pub loop-id-preserved-then-is_met : goal.loop-id-preserved-then-is_met
loop-id-preserved-then-is_met g c =
    let es = listed c.args.shapes.now c.args.order.now in
    let run = run_listed c.args.shapes.now c.args.order.now c.loop-id.place c.past_run-place.result c.requires.all_there c.past_run-place.ensures in
    let counted = counted_here c.args.layer c.args.rect es c.loop-id.place c.past_run-place.result _ _ c.in-Some.ensures run c.key_of.ensures.value c.in-Here.ensures in
    let long : length c.args.order.now < 2 ^ 64 = search rules in
    record {
      callable = c.loop-id.invariant.callable;
      within = c.past_run-place.ensures.within;
      counted = grind (arith, counted, c.saturating_add-compared.ensures, c.loop-id.invariant.counted);
      least = omega (arith, met_fewer c.args.layer c.args.rect es c.loop-id.place c.past_run-place.result _ c.in-Some.ensures run, counted, near_few c.args.layer c.args.rect (once es), once_short es, c.requires.all_there, long, c.saturating_add-compared.ensures, c.loop-id.invariant.counted, c.loop-id.invariant.least);
      rest = λ last k. c.loop-id.invariant.rest last (met_here c.args.layer c.args.rect es _ c.loop-id.place c.past_run-place.result _ _ _ last c.in-Some.ensures run (sym (c.is_met.ensures c.in-Some.id) ∙ c.if-is_met.true) (c.in-Some.shape, refl, c.f-acc.ensures) k);
    }

pub loop-id-preserved-else-is_met : goal.loop-id-preserved-else-is_met
loop-id-preserved-else-is_met g c =
    let es = listed c.args.shapes.now c.args.order.now in
    let run = run_listed c.args.shapes.now c.args.order.now c.loop-id.place c.past_run-place.result c.requires.all_there c.past_run-place.ensures in
    let counted = counted_here c.args.layer c.args.rect es c.loop-id.place c.past_run-place.result _ _ c.in-Some.ensures run c.key_of.ensures.value c.in-Here.ensures in
    let long : length c.args.order.now < 2 ^ 64 = search rules in
    record {
      callable = c.loop-id.invariant.callable;
      within = c.past_run-place.ensures.within;
      counted = grind (arith, counted, c.saturating_add-compared.ensures, c.loop-id.invariant.counted);
      least = omega (arith, met_fewer c.args.layer c.args.rect es c.loop-id.place c.past_run-place.result _ c.in-Some.ensures run, counted, near_few c.args.layer c.args.rect (once es), once_short es, c.requires.all_there, long, c.saturating_add-compared.ensures, c.loop-id.invariant.counted, c.loop-id.invariant.least);
      rest = λ last k. c.loop-id.invariant.rest last (not_here c.args.layer c.args.rect es _ c.loop-id.place c.past_run-place.result _ _ last c.in-Some.ensures run (sym (c.is_met.ensures c.in-Some.id) ∙ c.if-is_met.false) k);
    }

pub loop-id-smaller-then-is_met : goal.loop-id-smaller-then-is_met
loop-id-smaller-then-is_met g c = omega (arith, c.past_run-place.ensures.some, c.past_run-place.ensures.within)

pub loop-id-smaller-else-is_met : goal.loop-id-smaller-else-is_met
loop-id-smaller-else-is_met g c = omega (arith, c.past_run-place.ensures.some, c.past_run-place.ensures.within)

pub loop-id-smaller : goal.loop-id-smaller
loop-id-smaller g c = omega (arith, c.past_run-place.ensures.some, c.past_run-place.ensures.within, c.first_from-place.ensures.behind, c.first_from-place.ensures.within)

pub loop-id-preserved : goal.loop-id-preserved
loop-id-preserved g c =
    let es = listed c.args.shapes.now c.args.order.now in
    let all = c.requires.all_there in
    let one = one_key c.args.shapes.now c.args.order.now in
    let run = run_listed c.args.shapes.now c.args.order.now c.loop-id.place c.past_run-place.result all c.past_run-place.ensures in
    let later : c.loop-id.place < c.first_from-place.result = omega (arith, c.past_run-place.ensures.some, c.first_from-place.ensures.behind) in
    let high : c.first_from-place.result ≤ length es = omega (arith, all, c.first_from-place.ensures.within) in
    let changes = changes_at es c.loop-id.place c.past_run-place.result c.first_from-place.result _ run one c.first_from-place.ensures.behind high c.first_from-place.ensures.passed (λ k d from to. c.first_from-place.ensures.left k d from (omega (arith, all, to))) in
    let same = met_later c.args.layer c.args.rect es c.loop-id.place c.past_run-place.result c.first_from-place.result _ _ c.in-From.next c.requires.in_order c.in-Some.ensures c.key_of.ensures.value c.in-From.ensures run one c.first_from-place.ensures.behind high c.first_from-place.ensures.passed changes in
    record {
      callable = c.loop-id.invariant.callable;
      within = c.first_from-place.ensures.within;
      counted = omega (arith, counted_later c.args.layer c.args.rect es c.loop-id.place c.first_from-place.result (c.in-Some.id, c.in-Some.shape.now) later high changes, c.loop-id.invariant.counted);
      least = omega (arith, ap length same, c.loop-id.invariant.least);
      rest = λ last k. c.loop-id.invariant.rest last (over_same c.args.layer c.args.rect es _ c.loop-id.place c.first_from-place.result _ last same k);
    }

pub returns-in-End : goal.returns-in-End
returns-in-End g c =
    let none = met_end c.args.layer c.args.rect (listed c.args.shapes.now c.args.order.now) c.loop-id.place _ _ c.requires.in_order c.in-Some.ensures c.key_of.ensures.value c.in-End.ensures in
    record {
      folded = c.loop-id.invariant.rest _ (over_none c.args.layer c.args.rect (listed c.args.shapes.now c.args.order.now) _ c.loop-id.place _ none);
      compared = omega (arith, c.loop-id.invariant.counted);
      least = omega (arith, ap length none, c.loop-id.invariant.least);
    }

pub returns : goal.returns
returns g c =
    let none = met_past c.args.layer c.args.rect (listed c.args.shapes.now c.args.order.now) c.loop-id.place (rw c.in_default.is at c.entry_at.ensures) in
    record {
      folded = c.loop-id.invariant.rest _ (over_none c.args.layer c.args.rect (listed c.args.shapes.now c.args.order.now) _ c.loop-id.place _ none);
      compared = omega (arith, c.loop-id.invariant.counted);
      least = omega (arith, ap length none, c.loop-id.invariant.least);
    }

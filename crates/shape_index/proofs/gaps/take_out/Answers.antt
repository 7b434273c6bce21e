use Rattle.std.proofs.Common.{◌≡◌, ◌∙◌, ◌-◌, ◌++◌, arith, ap, drop, length, List, replicate, subst, take}
use Rattle.design_model.specs.declared.identifier.ShapeId.{ShapeId}
use Rattle.shape_index.specs.GapOrder.{IsRun}
use Rattle.shape_index.proofs.Gapped.{filled_front, filled_from, lent_back}
use Rattle.shape_index.proofs.gaps.take_out.Goals as goal

pub returns-then-place-gt0-clause-taken : goal.returns-then-place-gt0-clause-taken
returns-then-place-gt0-clause-taken g c =
    let old = c.args.order.now.items in
    let place = c.args.place in
    let past = c.past_run-past.result in
    let before : ShapeId = c.index-before.result.now in
    let run : IsRun old place past = subst (λ l. IsRun l place past) c.deref.ensures.value c.past_run-past.ensures in
    let written : c.fill.new.order ≡ take place old ++ (replicate (past - place) before ++ drop past old) = subst (λ (l : List ShapeId). c.fill.new.order ≡ take place l ++ (replicate (past - place) before ++ drop past l)) c.deref_mut.ensures.value c.fill.ensures.filled in
    (past, run, filled_from old _ place past before c.if-place-gt0.true run c.index-before.ensures (lent_back c.fill.new.order old c.args.order.now.len (c.fill.ensures.len ∙ c.deref_mut.ensures.len) ∙ written))

pub returns-then-past-len-clause-taken : goal.returns-then-past-len-clause-taken
returns-then-past-len-clause-taken g c =
    let old = c.args.order.now.items in
    let place = c.args.place in
    let past = c.past_run-past.result in
    let behind : ShapeId = c.index-behind.result.now in
    let run : IsRun old place past = subst (λ l. IsRun l place past) c.deref.ensures.value c.past_run-past.ensures in
    let new : List ShapeId = c.fill-then-past-len.new.order in
    let written : new ≡ take 0 old ++ (replicate (past - 0) behind ++ drop past old) = subst (λ (l : List ShapeId). new ≡ take 0 l ++ (replicate (past - 0) behind ++ drop past l)) c.deref_mut-then-past-len.ensures.value c.fill-then-past-len.ensures.filled in
    (past, run, filled_front old _ place past behind (omega (arith, c.if-place-gt0.false)) (omega (arith, c.if-past-len.true, c.len.ensures, c.deref.ensures.len, ap length c.deref.ensures.value)) c.index-behind.ensures (lent_back new old c.args.order.now.len (c.fill-then-past-len.ensures.len ∙ c.deref_mut-then-past-len.ensures.len) ∙ written))

use Rattle.std.proofs.Common.{map, drop, ◌+◌, ap, sym, ◌∙◌}
use Rattle.lefdef_tokens.specs.Views.{word_view}
use Rattle.design_model.specs.Views.{rectangle_of}
use Rattle.place_checks.specs.PlaceViews.{fence_view}
use Rattle.place_checks.specs.Views.{boxed_view}
use Rattle.place_checks.proofs.HullLemmas.{drop_from, passed_over}
use Rattle.place_checks.proofs.fences.put_fences.Goals as goal

pub loop-fence-preserved-then-not-is_one_of : goal.loop-fence-preserved-then-not-is_one_of
loop-fence-preserved-then-not-is_one_of g c =
    let fences = c.args.fences.now in
    let i = c.loop-fence.fence-index in
    let fence = c.fence-item.result in
    passed_over (map word_view c.args.regions.now) (boxed_view c.args.component.now) (fence_view fence) (map fence_view (drop i fences)) (map fence_view (drop (i + 1) fences))
    (rectangle_of fence.hull) _ _ (ap (map fence_view) (drop_from fences i fence c.loop-fence-test.true c.fence-item.is)) fence.hull_is
    (sym c.is_apart.ensures ∙ c.if-is_apart.true) (sym c.is_one_of.ensures ∙ c.if-not-is_one_of.true) c.loop-fence.invariant

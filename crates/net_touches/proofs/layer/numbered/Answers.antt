use Rattle.std.proofs.Common.{map, refl}
use Rattle.shape_pairs.specs.declared.pairs.Numbered.{Numbered}
use Rattle.net_touches.specs.ThingViews.{seen, seen_at, thing_view}
use Rattle.net_touches.proofs.StepLemmas.{all_seen, is_seen, pushed}
use Rattle.net_touches.proofs.layer.numbered.Goals as goal

pub loop-id-init : goal.loop-id-init
loop-id-init g c = rw c.in_ok-items.ensures.items (all_seen c.args.things.now)

pub loop-id-preserved : goal.loop-id-preserved
loop-id-preserved g c =
    let xs = c.args.things.now in
    let x = c.index-things-id.result in
    let n : Numbered = record { rect = c.rect.result; id = c.loop-id.id } in
    rw c.in_ok-push.ensures.items
    (pushed (seen_at (map thing_view xs)) (λ x. seen (thing_view x)) c.loop-id.items.items n xs c.loop-id.id x _ c.loop-id-test.true c.index-things-id.is
    (is_seen xs c.loop-id.id x n c.loop-id-test.true c.index-things-id.is refl c.rect.ensures) c.loop-id.invariant)

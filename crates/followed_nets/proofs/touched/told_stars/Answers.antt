use Rattle.std.proofs.Common.{rules, ◌≡◌, ◌∙◌, ◌<◌, ◌∷◌, [], ap, length, map}
use Rattle.std.proofs.lemmas.List.{map-append}
use Rattle.design_rules.specs.Boxes.{scale}
use Rattle.design_text.specs.DesignTexts.{design_of}
use Rattle.net_laws.specs.StarNets.{pins_by_one}
use Rattle.followed_nets.specs.ToldViews.{star_view}
use Rattle.followed_nets.proofs.ToldNets.{one_more_star, one_more_star_named}
use Rattle.followed_nets.proofs.touched.told_stars.Goals as goal

pub loop-star-preserved : goal.loop-star-preserved
loop-star-preserved g c =
    let below : c.loop-star.star-index < length c.args.stars.now = search rules in
    let design = design_of c.args.text.now in
    let named : (star_view c.in-Some.net).name ≡ c.star-item.result.name = search rules in
    let pins : (star_view c.in-Some.net).pins ≡ pins_by_one c.args.library.now design (scale design) c.star-item.result.name c.args.component.now = rw (c.name.ensures) at (rw (c.in-Some.is) at c.in_ok-net.ensures.pins) in
    let put = ap (map star_view) c.in_ok-push-in-Some.ensures.items ∙ map-append star_view c.loop-star.told.items (c.in-Some.net ∷ []) in
    record {
      pins = rw put (one_more_star c.args.library.now design c.args.component.now (map star_view c.loop-star.told.items) c.star-item.result.name (star_view c.in-Some.net) c.loop-star.invariant.pins named pins);
      named = rw put (one_more_star_named (map star_view c.loop-star.told.items) c.args.stars.now c.loop-star.star-index c.star-item.result (star_view c.in-Some.net) below c.star-item.is named c.loop-star.invariant.named);
    }

use Rattle.std.proofs.Common.{rules, ◌∙◌, ◌<◌, ◌∷◌, [], ap, length, map}
use Rattle.std.proofs.lemmas.List.{map-append}
use Rattle.design_text.specs.DesignTexts.{design_of}
use Rattle.followed_nets.specs.Heads.{Head}
use Rattle.followed_nets.specs.StarHeads.{IsPinsBy, IsStarHead, PinShapes}
use Rattle.followed_nets.specs.StarHeadViews.{pins_view}
use Rattle.followed_nets.specs.ToldViews.{head_view}
use Rattle.followed_nets.proofs.NoteLemmas.{all_and_one}
use Rattle.followed_nets.proofs.StarHeadLemmas.{one_more_told, with_first}
use Rattle.followed_nets.proofs.star_heads.pins_of_heads.Goals as goal

pub told_pins-requires-clause-head : goal.told_pins-requires-clause-head
told_pins-requires-clause-head g c =
    let below : c.loop-head.head-index < length c.args.heads.now = search rules in
    (with_first (IsStarHead (design_of c.args.text.now)) head_view c.args.heads.now c.loop-head.head-index c.head-item.result below c.head-item.is c.loop-head.invariant.left).0

pub loop-head-preserved : goal.loop-head-preserved
loop-head-preserved g c =
    let below : c.loop-head.head-index < length c.args.heads.now = search rules in
    let named = rw (c.in-Some.is) at c.in_ok-pins.ensures.named in
    let pins = rw (c.in-Some.is) at c.in_ok-pins.ensures.pins in
    let put = ap (map pins_view) c.in_ok-push-in-Some.ensures.items ∙ map-append pins_view c.loop-head.told.items (c.in-Some.pins ∷ []) in
    record {
      left = (with_first (IsStarHead (design_of c.args.text.now)) head_view c.args.heads.now c.loop-head.head-index c.head-item.result below c.head-item.is c.loop-head.invariant.left).1;
      shapes = rw put (all_and_one (IsPinsBy c.args.library.now (design_of c.args.text.now) c.args.component.now) (map pins_view c.loop-head.told.items) (pins_view c.in-Some.pins) c.loop-head.invariant.shapes pins);
      named = rw put (one_more_told head_view (λ (h : Head). h.name) (λ (p : PinShapes). p.name) (map pins_view c.loop-head.told.items) c.args.heads.now c.loop-head.head-index c.head-item.result (pins_view c.in-Some.pins) below c.head-item.is named c.loop-head.invariant.named);
    }

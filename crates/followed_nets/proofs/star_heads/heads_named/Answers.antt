use Rattle.std.proofs.Common.{rules, ◌≡◌, ◌∙◌, ◌<◌, ◌∷◌, [], ap, length, map}
use Rattle.std.proofs.lemmas.List.{map-append}
use Rattle.design_text.specs.DesignTexts.{design_of}
use Rattle.followed_nets.specs.Heads.{Head}
use Rattle.followed_nets.specs.StarHeads.{IsStarHead}
use Rattle.followed_nets.specs.ToldViews.{head_view}
use Rattle.followed_nets.proofs.NoteLemmas.{all_and_one}
use Rattle.followed_nets.proofs.StarHeadLemmas.{one_more_so_named}
use Rattle.followed_nets.proofs.star_heads.heads_named.Goals as goal

pub loop-name-preserved : goal.loop-name-preserved
loop-name-preserved g c =
    let below : c.loop-name.name-index < length c.args.names.now = search rules in
    let named : (head_view c.in-Some.head).name ≡ c.name-item.result = search rules in
    let head = rw (c.in-Some.is) at c.in_ok-head.ensures.head in
    let put = ap (map head_view) c.in_ok-push-in-Some.ensures.items ∙ map-append head_view c.loop-name.heads.items (c.in-Some.head ∷ []) in
    record {
      named = rw put (one_more_so_named (λ (h : Head). h.name) (map head_view c.loop-name.heads.items) c.args.names.now c.loop-name.name-index c.name-item.result (head_view c.in-Some.head) below c.name-item.is named c.loop-name.invariant.named);
      heads = rw put (all_and_one (IsStarHead (design_of c.args.text.now)) (map head_view c.loop-name.heads.items) (head_view c.in-Some.head) c.loop-name.invariant.heads head);
    }

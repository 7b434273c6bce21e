use Rattle.std.proofs.Common.{rules, ◌≡◌, ◌∙◌, ◌<◌, ◌∷◌, [], ap, length, map}
use Rattle.std.proofs.lemmas.List.{map-append}
use Rattle.design_text.specs.DesignTexts.{design_of}
use Rattle.followed_nets.proofs.StarHeadLemmas.{one_more_so_named}
use Rattle.followed_measures.specs.Told.{IsNetIn, ToldNet}
use Rattle.followed_measures.specs.ToldViews.{net_view}
use Rattle.followed_measures.proofs.LoopLemmas.{one_more}
use Rattle.followed_measures.proofs.told_edit.told_nets.Goals as goal

pub loop-name-preserved : goal.loop-name-preserved
loop-name-preserved g c =
    let below : c.loop-name.name-index < length c.args.names.now = search rules in
    let named : (net_view c.in-Some.net).name ≡ c.name-item.result = search rules in
    let told = rw (c.in-Some.is) at c.in_ok-net.ensures.told in
    let put = ap (map net_view) c.in_ok-push-in-Some.ensures.items ∙ map-append net_view c.loop-name.told.items (c.in-Some.net ∷ []) in
    record {
      told = rw put (one_more (IsNetIn c.args.library.now (design_of c.args.text.now)) (map net_view c.loop-name.told.items) (net_view c.in-Some.net) c.loop-name.invariant.told told);
      named = rw put (one_more_so_named (λ (t : ToldNet). t.name) (map net_view c.loop-name.told.items) c.args.names.now c.loop-name.name-index c.name-item.result (net_view c.in-Some.net) below c.name-item.is named c.loop-name.invariant.named);
    }

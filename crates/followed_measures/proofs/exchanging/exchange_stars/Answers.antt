use Rattle.std.proofs.Common.{rules, ◌≡◌, ◌∙◌, ◌∷◌, [], ap, map, sym, true}
use Rattle.std.proofs.lemmas.List.{map-append, nil_from_length}
use Rattle.followed_nets.specs.StarHeads.{pin_names}
use Rattle.followed_nets.specs.StarHeadViews.{pins_view}
use Rattle.followed_measures.proofs.LoopLemmas.{all_done, next_star, no_star}
use Rattle.followed_measures.proofs.exchanging.exchange_stars.Goals as goal

pub loop-went-init : goal.loop-went-init
loop-went-init g c = record {
  left = λ library old new component awaits. no_star library old new component _ _ _ awaits;
}

pub loop-went-preserved : goal.loop-went-preserved
loop-went-preserved g c = record {
  left = λ library old new component awaits.
      let so_far = c.loop-went.invariant.left library old new component awaits in
      let gone = ap (map pins_view) c.in-Some.ensures.items ∙ map-append pins_view c.pop.new.self.items (c.in-Some.went ∷ []) in
      let come = ap (map pins_view) c.in-Some-pop.ensures.items ∙ map-append pins_view c.pop-in-Some.new.self.items (c.in-Some-pop.came ∷ []) in
      let yes : c.in_ok-exchange_star.field-0 ≡ true = search rules in
      next_star library old new component _ _ _ _ _ (pins_view c.in-Some.went) (pins_view c.in-Some-pop.came) _ _ _ gone come so_far (λ one. c.in_ok-exchange_star.ensures library old new component one yes);
}

pub returns : goal.returns
returns g c = λ library old new component awaits is.
    let so_far = c.loop-went.invariant.left library old new component awaits in
    let none = nil_from_length c.loop-went.before.items (sym c.loop-went.before.ok.0 ∙ c.in_default.ensures.cases.0) in
    all_done library old new _ _ _ _ (ap (λ ps. pin_names (map pins_view ps)) none) so_far.nets

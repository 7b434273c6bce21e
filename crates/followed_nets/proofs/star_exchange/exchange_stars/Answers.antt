use Rattle.std.proofs.Common.{rules, ◌≡◌, ◌∙◌, ◌∷◌, [], ap, arith, drop, length, map, refl, sym}
use Rattle.std.specs.Prelude.{reverse}
use Rattle.std.proofs.lemmas.List.{map-append, nil_from_length, take_at}
use Rattle.followed_nets.specs.Stars.{names_of}
use Rattle.followed_nets.specs.ToldViews.{star_view, told_view}
use Rattle.followed_nets.proofs.StarPairs.{all_followed_few, next_few}
use Rattle.followed_nets.proofs.StarsLeft.{in_the_end, next_left, none_done}
use Rattle.followed_nets.proofs.star_exchange.exchange_stars.Goals as goal

pub loop-star-init : goal.loop-star-init
loop-star-init g c = record {
  left = λ library old new component a.
      rw (c.new-done.ensures.items, c.new-gone.ensures.items, c.new-come.ensures.items) (none_done library old new component (names_of c.args.stars.items) c.args.stars.items _ _ refl a);
  few = omega arith;
}

pub loop-star-preserved : goal.loop-star-preserved
loop-star-preserved g c = record {
  left = λ library old new component a.
      let left = c.loop-star.invariant.left library old new component a in
      let gone = ap (map star_view) c.in-Some-pop.ensures.items ∙ map-append star_view c.pop-in-Some.new.self.items (c.in-Some-pop.went ∷ []) in
      let come = ap (map star_view) c.in-Some-pop-2.ensures.items ∙ map-append star_view c.pop-in-Some-2.new.self.items (c.in-Some-pop-2.came ∷ []) in
      let parts = rw (c.in-Some-2.is) at c.in_ok-pins.ensures.parts in
      let goes = rw (c.in-Some-2.is) at c.in_ok-pins.ensures.gone in
      let comes = rw (c.in-Some-2.is) at c.in_ok-pins.ensures.come in
      let went = ap (map told_view) c.in_ok-push-2.ensures.items ∙ map-append told_view c.loop-star.gone.items (c.in-Some-2.pins.gone ∷ []) in
      let came = ap (map told_view) c.in_ok-push-3.ensures.items ∙ map-append told_view c.loop-star.come.items (c.in-Some-2.pins.come ∷ []) in
      rw (c.in_ok-push.ensures.items, went, came)
      (next_left library old new component (names_of c.args.stars.items) c.one_component_exchanged.ensures c.parts_in_any_order.ensures c.pop.new.self.items c.in-Some.star _ _ _ _ c.loop-star.stars.items _ _ c.loop-star.done.items _ _ left c.in-Some.ensures.items gone come
      c.exchange_pins.new.star (told_view c.in-Some-2.pins.gone) (told_view c.in-Some-2.pins.come) parts.0 c.in_ok-pins.ensures.name c.in_ok-pins.ensures.power goes comes parts.1 parts.2);
  few =
      next_few c.loop-star.stars.items c.pop.new.self.items c.loop-star.done.items _ c.args.stars.items c.in-Some.star c.exchange_pins.new.star c.loop-star.tests c.in-Some-2.pins.tests _
      c.in-Some.ensures.items
      c.in_ok-push.ensures.items
      (rw (c.in-Some-2.is) at c.in_ok-pins.ensures.tests)
      (let sum = c.saturating_add-tests.ensures in omega (arith, sum))
      c.loop-star.invariant.few;
}

pub returns-clause-stars : goal.returns-clause-stars
returns-clause-stars g c = λ library old new component a.
    let left = c.loop-star.invariant.left library old new component a in
    let none = nil_from_length c.loop-star.stars.items (sym c.loop-star.stars.ok.0 ∙ c.in_default.ensures.cases.0) in
    let long : length c.reverse.new.self ≡ c.loop-star.done.len = search rules in
    let same = take_at c.reverse.new.self (drop (length c.reverse.new.self) c.loop-star.done.items) c.loop-star.done.len long ∙ c.reverse.ensures.after ∙ ap reverse c.as_mut_slice.ensures.value in
    rw same (in_the_end library old new component (names_of c.args.stars.items) c.loop-star.stars.items _ _ c.loop-star.done.items _ _ none left)

pub returns-clause-tests : goal.returns-clause-tests
returns-clause-tests g c =
    let none = nil_from_length c.loop-star.stars.items (sym c.loop-star.stars.ok.0 ∙ c.in_default.ensures.cases.0) in
    let long : length c.reverse.new.self ≡ c.loop-star.done.len = search rules in
    let same = take_at c.reverse.new.self (drop (length c.reverse.new.self) c.loop-star.done.items) c.loop-star.done.len long ∙ c.reverse.ensures.after ∙ ap reverse c.as_mut_slice.ensures.value in
    all_followed_few c.loop-star.stars.items c.loop-star.done.items _ c.args.stars.items c.loop-star.tests none same c.loop-star.invariant.few

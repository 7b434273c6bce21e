use Rattle.std.proofs.Common.{◌∙◌, ⊎_elim, ap, arith, inl, inr, map}
use Rattle.net_lists.specs.PartCuts.{shape_view}
use Rattle.followed_nets.proofs.star_exchange.exchange_pins.Goals as goal

pub returns-clause-gone : goal.returns-clause-gone
returns-clause-gone g c = record {
  name_is = rw (c.in-Some.is) at c.in_ok-gone.ensures.name;
  lines_are = rw (c.in-Some.is) at c.in_ok-gone.ensures.lines;
  shapes_are = ap (map shape_view) (rw (c.in-Some.is) at c.in_ok-gone.ensures.shapes) ∙ (rw (c.deref.ensures.value) at c.in_ok-out.ensures);
}

pub returns-clause-come : goal.returns-clause-come
returns-clause-come g c = record {
  name_is = rw (c.in-Some-3.is) at c.in_ok-come.ensures.name;
  lines_are = rw (c.in-Some-3.is) at c.in_ok-come.ensures.lines;
  shapes_are = ap (map shape_view) (rw (c.in-Some-3.is) at c.in_ok-come.ensures.shapes) ∙ (rw (c.deref-2.ensures.value) at c.in_ok-put.ensures);
}

pub returns-clause-parts : goal.returns-clause-parts
returns-clause-parts g c = rw (c.in-Some-2.is, c.deref-3.ensures.value) at c.in_ok-compared.ensures.parts

pub returns-clause-tests : goal.returns-clause-tests
returns-clause-tests g c =
    let before = rw (c.in-Some-2.is) at c.in_ok-compared.ensures.before in
    let after = rw (c.in-Some-2.is) at c.in_ok-compared.ensures.after in
    let sum = c.saturating_add-tests.ensures in
    omega (arith, before, after, sum)

pub returns-clause-least : goal.returns-clause-least
returns-clause-least g c = λ stay same.
    let least = rw (c.in-Some-2.is, c.deref-3.ensures.value) at c.in_ok-compared.ensures.least in
    let sum = c.saturating_add-tests.ensures in
    ⊎_elim (λ before. inl (omega (arith, before, sum))) (λ after. inr (omega (arith, after, sum))) (least stay same)

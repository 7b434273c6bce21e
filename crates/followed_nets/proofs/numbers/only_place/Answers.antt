use Rattle.std.proofs.Common.{rules, ◌≡◌, ◌∙◌, ◌+◌, false, drop, take, ap, sym}
use Rattle.std.specs.List.{list_any}
use Rattle.design_tables.specs.Lookups.{is_number}
use Rattle.followed_nets.proofs.NumberLemmas.{only_at}
use Rattle.followed_nets.proofs.numbers.only_place.Goals as goal

pub returns : goal.returns
returns c = λ front rest is.
    let ids = c.args.ids.now in
    let id = c.args.id in
    let place = c.in_ok-place.place in
    let front_is : c.in_ok-front.front.now ≡ take place ids = search rules in
    let rest_is : c.in_ok-rest.rest.now ≡ drop (place + 1) ids = c.in_ok-rest.ensures in
    let none : list_any (is_number id) (take place ids) ≡ false = ap (list_any (is_number id)) (sym front_is) ∙ (sym c.is_among.ensures ∙ c.if-is_among.false) in
    let none_behind : list_any (is_number id) (drop (place + 1) ids) ≡ false = ap (list_any (is_number id)) (sym rest_is) ∙ (sym c.is_among-else-is_among.ensures ∙ c.if-is_among-2.false) in
    only_at ids place id c.in_ok-place.ensures.parted c.in_ok-place.ensures.below none none_behind front rest is

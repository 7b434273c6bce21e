use Rattle.std.proofs.Common.{◌≡◌, ◌∙◌, ◌+◌, List, ◌∷◌, ap, drop, false, subst, sym}
use Rattle.std.specs.List.{AllByRecursion}
use Rattle.std.proofs.lemmas.List.{drop_more}
use Rattle.connection_rules.specs.NetParts.{Net}
use Rattle.net_laws.specs.NetChanges.{is_one_of}
use Rattle.followed_nets.proofs.followed.are_others.Goals as goal

pub loop-star-preserved : goal.loop-star-preserved
loop-star-preserved g c = λ rest.
    let stars = c.args.stars.now in
    let i = c.loop-star.star-index in
    let x = c.star-item.result in
    let here : is_one_of c.args.names.now x.name ≡ false = rw (c.name.ensures) at (sym c.is_one_of.ensures ∙ c.if-is_one_of.false) in
    let left : drop i stars ≡ x ∷ drop (i + 1) stars = drop_more stars i x c.loop-star-test.true ∙ ap (λ (y : Net). y ∷ drop (i + 1) stars) (sym c.star-item.is) in
    c.loop-star.invariant (subst (λ (l : List Net). AllByRecursion (λ (s : Net). is_one_of c.args.names.now s.name ≡ false) l) (sym left) (here, rest))

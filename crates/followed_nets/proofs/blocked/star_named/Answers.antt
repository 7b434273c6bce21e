use Rattle.std.proofs.Common.{◌≡◌, ◌∙◌, rules, sym}
use Rattle.std.proofs.lemmas.Slice.Eq.{bytes_eq-Decides}
use Rattle.followed_nets.specs.Stars.{IsStar}
use Rattle.followed_nets.proofs.NearNames.{all_at}
use Rattle.followed_nets.proofs.blocked.star_named.Goals as goal

pub returns-then-eq-clause-star : goal.returns-then-eq-clause-star
returns-then-eq-clause-star g c = λ library design all. all_at (IsStar library design) c.args.stars.now c.loop-star.star-index c.star-item.result (search rules) c.star-item.is all

pub returns-then-eq-clause-named : goal.returns-then-eq-clause-named
returns-then-eq-clause-named g c = sym c.name.ensures ∙ (bytes_eq-Decides c.name.result.now c.args.name.now).0 (sym c.eq.ensures ∙ c.if-eq.true)

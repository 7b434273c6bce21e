use Rattle.std.proofs.Common.{◌≡◌, is_some, ◌∙◌, rules}
use Rattle.net_wiring.specs.WiringViews.{passes}
use Rattle.net_wiring.proofs.WiringLemmas.{any_is}
use Rattle.net_wiring.proofs.wiring_clauses.any.Goals as goal

pub returns : goal.returns
returns g c =
    let is : c.is_some.result ≡ is_some c.next_role.result = search rules in
    is ∙ any_is (λ r. passes r c.args.test) (g.C.WiringClauses.left c.args.clauses) (g.C.WiringClauses.left c.from_first-first.result) _ _ _ c.next_role.result c.from_first-first.ensures.left c.next_role.ensures

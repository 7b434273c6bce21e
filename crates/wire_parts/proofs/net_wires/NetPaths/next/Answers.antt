use Rattle.std.proofs.Common.{◌∙◌, subst}
use Rattle.wire_parts.specs.WiresLeft.{StandsIn}
use Rattle.wire_parts.specs.WiringViews.{WiringAt}
use Rattle.wire_parts.proofs.StandLemmas.{first_in, others_in}
use Rattle.wire_parts.proofs.net_wires.NetPaths.next.Goals as goal

pub returns-clause-text : goal.returns-clause-text
returns-clause-text c text s =
    let w = c.in_ok-wiring.wiring in
    (others_in text w (subst (λ t. StandsIn WiringAt t w) s.1 c.in_ok-wiring.ensures.lent), c.in_ok-wiring.ensures.later.text ∙ s.1)

pub returns-clause-lent : goal.returns-clause-lent
returns-clause-lent c text s = let w = c.in_ok-wiring.wiring in first_in text w (subst (λ t. StandsIn WiringAt t w) s.1 c.in_ok-wiring.ensures.lent)

use Rattle.std.proofs.Common.{◌∙◌, subst}
use Rattle.wire_parts.specs.WiresLeft.{StandsIn}
use Rattle.wire_parts.specs.WiringViews.{SpecialWiresAt}
use Rattle.wire_parts.proofs.StandLemmas.{special_first_in, special_others_in}
use Rattle.wire_parts.proofs.special_wires.SpecialPaths.next.Goals as goal

pub returns-clause-text : goal.returns-clause-text
returns-clause-text c text s =
    let w = c.in_ok-wires.wires in
    (special_others_in text w (subst (λ t. StandsIn SpecialWiresAt t w) s.1 c.in_ok-wires.ensures.lent), c.in_ok-wires.ensures.later.text ∙ s.1)

pub returns-clause-lent : goal.returns-clause-lent
returns-clause-lent c text s = let w = c.in_ok-wires.wires in special_first_in text w (subst (λ t. StandsIn SpecialWiresAt t w) s.1 c.in_ok-wires.ensures.lent)

use Rattle.statement_model.specs.Form.{spell}
use Rattle.def_grammar.specs.Wiring.{new_special_wire}
use Rattle.wire_parts.specs.WiringViews.{SpecialWireAt, special_wire_view}
use Rattle.wire_parts.proofs.StandLemmas.{given_in, left_in}
use Rattle.wire_parts.proofs.special_wires.next_of_clause.Goals as goal

pub returns-in-Some-clause-text : goal.returns-in-Some-clause-text
returns-in-Some-clause-text c text = rw (c.in-Some.is) (λ s. left_in _ _ c.in-Some.left c.next.new.self text (λ w. spell new_special_wire (special_wire_view w)) c.next.result c.next.ensures.left c.next.ensures.fewer s)

pub returns-in-Some-clause-lent : goal.returns-in-Some-clause-lent
returns-in-Some-clause-lent c text = rw (c.in-Some.is) (λ s. given_in SpecialWireAt c.in-Some.left text c.next.result c.next.ensures.lent s)

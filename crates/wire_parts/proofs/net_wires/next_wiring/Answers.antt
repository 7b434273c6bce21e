use Rattle.std.proofs.Common.{[], ◌∷◌}
use Rattle.wire_parts.proofs.net_wires.next_wiring.Goals as goal

pub returns-in-Some-wiring_of-clause-lent : goal.returns-in-Some-wiring_of-clause-lent
returns-in-Some-wiring_of-clause-lent c = (c.loop-clause.clauses.cursor.tokens, [] ∷ [], c.loop-clause.invariant.later.text, c.in-Some-wiring_of.ensures.lent _ c.in-Some.ensures.lent)

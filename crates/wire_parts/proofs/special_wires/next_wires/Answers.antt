use Rattle.std.proofs.Common.{[], ◌∷◌}
use Rattle.wire_parts.proofs.special_wires.next_wires.Goals as goal

pub returns-in-Some-wires_of-clause-lent : goal.returns-in-Some-wires_of-clause-lent
returns-in-Some-wires_of-clause-lent c =
    let there = c.in-Some-wires_of.ensures.lent _ c.in-Some.ensures.lent in
    (c.loop-clause.clauses.cursor.tokens, [] ∷ there.0, c.loop-clause.invariant.later.text, there.1)

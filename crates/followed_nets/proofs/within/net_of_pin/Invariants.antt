use Rattle.std.proofs.Common.{◌≡◌}
use Rattle.form_meanings.specs.Firsts.{first_of}
use Rattle.def_grammar.specs.Pins.{net_of_clause}
use Rattle.place_parts.specs.PinViews.{pin_clauses_of}
use Rattle.followed_nets.proofs.within.net_of_pin.Given as goal

abbrev pub invariant-loop-clause : goal.invariant-loop-clause
invariant-loop-clause l = first_of net_of_clause (pin_clauses_of l.left) ≡ first_of net_of_clause (pin_clauses_of l.fn.clauses)

abbrev pub decreases-loop-clause : goal.decreases-loop-clause
decreases-loop-clause l = l.left.most

use Rattle.std.proofs.Common.{◌≡◌}
use Rattle.form_meanings.specs.Firsts.{first_of}
use Rattle.via_parts.specs.ViaViews.{via_clauses_of}
use Rattle.def_grammar.specs.DefVias.{layers_of_clause}
use Rattle.entry_checks.proofs.via_layers.first_layers.Given as goal

abbrev pub invariant-loop-clause : goal.invariant-loop-clause
invariant-loop-clause l = first_of layers_of_clause (via_clauses_of l.left) ≡ first_of layers_of_clause (via_clauses_of l.fn.clauses)

abbrev pub decreases-loop-clause : goal.decreases-loop-clause
decreases-loop-clause l = l.left.most

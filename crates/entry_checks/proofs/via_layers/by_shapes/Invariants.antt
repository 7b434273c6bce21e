use Rattle.std.specs.List.{filter_map}
use Rattle.via_parts.specs.ViaViews.{via_clauses_of}
use Rattle.def_grammar.specs.DefVias.{layer_of_shape}
use Rattle.entry_checks.specs.JoinedLayers.{Joins}
use Rattle.entry_checks.proofs.via_layers.by_shapes.Given as goal

abbrev pub invariant-loop-clause : goal.invariant-loop-clause
invariant-loop-clause g l = Joins l.library l.joined (filter_map layer_of_shape (via_clauses_of l.left)) (filter_map layer_of_shape (via_clauses_of l.fn.clauses))

abbrev pub decreases-loop-clause : goal.decreases-loop-clause
decreases-loop-clause g l = l.left.most

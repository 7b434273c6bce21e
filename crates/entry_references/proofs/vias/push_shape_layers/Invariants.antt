use Rattle.std.proofs.Common.{◌≡◌, ◌++◌, map}
use Rattle.std.specs.List.{filter_map}
use Rattle.via_parts.specs.ViaViews.{via_clauses_of}
use Rattle.entry_rules.specs.References.{to_layer}
use Rattle.def_grammar.specs.DefVias.{layer_of_shape}
use Rattle.entry_references.specs.ReferenceViews.{references_view}
use Rattle.entry_references.proofs.vias.push_shape_layers.Given as goal

abbrev pub invariant-loop-clause : goal.invariant-loop-clause
invariant-loop-clause g l =
    references_view l.found.items ++ map to_layer (filter_map layer_of_shape (via_clauses_of l.left)) ≡ references_view l.fn.found.items ++ map to_layer (filter_map layer_of_shape (via_clauses_of l.fn.clauses))

abbrev pub decreases-loop-clause : goal.decreases-loop-clause
decreases-loop-clause g l = l.left.most

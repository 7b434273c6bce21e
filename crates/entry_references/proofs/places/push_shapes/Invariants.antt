use Rattle.std.proofs.Common.{◌≡◌, ◌++◌, flat_map}
use Rattle.entry_rules.specs.References.{shape_references}
use Rattle.place_parts.specs.PinViews.{pin_clauses_of}
use Rattle.entry_references.specs.ReferenceViews.{references_view}
use Rattle.entry_references.proofs.places.push_shapes.Given as goal

abbrev pub invariant-loop-clause : goal.invariant-loop-clause
invariant-loop-clause g l =
    references_view l.found.items ++ flat_map shape_references (pin_clauses_of l.left) ≡ references_view l.fn.found.items ++ flat_map shape_references (pin_clauses_of l.fn.clauses)

abbrev pub decreases-loop-clause : goal.decreases-loop-clause
decreases-loop-clause g l = l.left.most

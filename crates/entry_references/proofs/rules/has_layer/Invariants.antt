use Rattle.std.proofs.Common.{◌≡◌, drop}
use Rattle.std.specs.List.{list_any}
use Rattle.entry_references.specs.ReferenceViews.{is_to_layer, references_view}
use Rattle.entry_references.proofs.rules.has_layer.Given as goal

abbrev pub invariant-loop-reference : goal.invariant-loop-reference
invariant-loop-reference l = list_any (is_to_layer l.layer) (references_view (drop l.reference-index l.found)) ≡ list_any (is_to_layer l.layer) (references_view l.found)

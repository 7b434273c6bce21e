use Rattle.std.proofs.Common.{◌≡◌, ◌++◌}
use Rattle.entry_references.specs.ReferenceViews.{special_item_references}
use Rattle.entry_references.specs.ReferenceViews.{references_view}
use Rattle.entry_references.proofs.special_nets.push_items.Given as goal

abbrev pub invariant-loop-item : goal.invariant-loop-item
invariant-loop-item g l =
    references_view l.found.items ++ special_item_references l.left ≡ references_view l.fn.found.items ++ special_item_references l.fn.items

abbrev pub decreases-loop-item : goal.decreases-loop-item
decreases-loop-item g l = l.left.most

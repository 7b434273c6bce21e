use Rattle.std.proofs.Common.{◌≡◌, ◌≤◌, ◌+◌, ◌++◌}
use Rattle.def_grammar.specs.Wiring.{wire_via}
use Rattle.wire_parts.specs.PathViews.{items_of, net_path_view}
use Rattle.entry_rules.specs.Unchecked.{diagonals, diagonals_of}
use Rattle.entry_rules.specs.WireItems.{items_after, net_via}
use Rattle.entry_references.specs.ReferenceViews.{net_item_references, references_view}
use Rattle.entry_references.proofs.nets.push_path.Given as goal

abbrev pub invariant-loop-item : goal.invariant-loop-item
invariant-loop-item g l = record {
  few : l.count + l.left.most ≤ l.path.items.most;
  so_far : l.count + diagonals l.at (items_after net_via l.at (items_of wire_via l.left)) ≡ diagonals_of net_via (net_path_view l.path);
  listed : references_view l.found.items ++ net_item_references l.left ≡ references_view l.fn.found.items ++ net_item_references l.path.items;
}

abbrev pub decreases-loop-item : goal.decreases-loop-item
decreases-loop-item g l = l.left.most

use Rattle.std.proofs.Common.{◌≡◌, ◌+◌, ◌++◌, flat_map, map, sum}
use Rattle.wire_parts.specs.WiringViews.{wires_of}
use Rattle.entry_rules.specs.References.{wire_references}
use Rattle.entry_rules.specs.Unchecked.{unchecked_in_wire}
use Rattle.entry_references.specs.ReferenceViews.{references_view}
use Rattle.entry_references.proofs.nets.push_later_wires.Given as goal

abbrev pub invariant-loop-wire : goal.invariant-loop-wire
invariant-loop-wire g l = record {
  listed : references_view l.found.items ++ flat_map wire_references (wires_of l.left) ≡ references_view l.fn.found.items ++ flat_map wire_references (wires_of l.fn.wires);
  counted : l.count + sum (map unchecked_in_wire (wires_of l.left)) ≡ sum (map unchecked_in_wire (wires_of l.fn.wires));
}

abbrev pub decreases-loop-wire : goal.decreases-loop-wire
decreases-loop-wire g l = l.left.most

use Rattle.std.proofs.Common.{◌≡◌, ◌++◌, flat_map}
use Rattle.wire_parts.specs.WiringViews.{special_wires_of}
use Rattle.entry_rules.specs.References.{special_wire_references}
use Rattle.entry_references.specs.ReferenceViews.{references_view}
use Rattle.entry_references.proofs.special_nets.push_later_wires.Given as goal

abbrev pub invariant-loop-wire : goal.invariant-loop-wire
invariant-loop-wire g l =
    references_view l.found.items ++ flat_map special_wire_references (special_wires_of l.left) ≡ references_view l.fn.found.items ++ flat_map special_wire_references (special_wires_of l.fn.wires)

abbrev pub decreases-loop-wire : goal.decreases-loop-wire
decreases-loop-wire g l = l.left.most

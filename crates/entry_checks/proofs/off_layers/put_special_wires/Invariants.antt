use Rattle.std.proofs.Common.{◌≡◌, ◌++◌, flat_map, length, map}
use Rattle.wire_parts.specs.SpecialWireViews.{special_paths_left}
use Rattle.entry_rules.specs.OffLayer.{off_layer_in_special_wire}
use Rattle.entry_checks.specs.Definitions.{vias_in}
use Rattle.entry_checks.specs.FoundVias.{AreFound}
use Rattle.entry_checks.specs.OffLayerViews.{off_layer_text}
use Rattle.entry_checks.proofs.off_layers.put_special_wires.Given as goal

abbrev pub invariant-loop-wire : goal.invariant-loop-wire
invariant-loop-wire g l = record {
  put :
      l.lines ++ map (off_layer_text l.owner) (flat_map (off_layer_in_special_wire (vias_in (g.K.Known.defined l.known))) (special_paths_left l.left))
      ≡ l.initial.lines ++ map (off_layer_text l.owner) (flat_map (off_layer_in_special_wire (vias_in (g.K.Known.defined l.known))) (special_paths_left l.fn.wires));
  found : AreFound (g.K.Known.defined l.known) l.vias;
}

abbrev pub decreases-loop-wire : goal.decreases-loop-wire
decreases-loop-wire g l = length (special_paths_left l.left)

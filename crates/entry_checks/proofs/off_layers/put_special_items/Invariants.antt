use Rattle.std.proofs.Common.{◌≡◌, ◌++◌, map}
use Rattle.std.specs.List.{filter_map}
use Rattle.def_grammar.specs.Wiring.{SpecialVia, special_via, via_of_item}
use Rattle.wire_parts.specs.PathViews.{items_of}
use Rattle.entry_rules.specs.OffLayer.{off_layer_vias}
use Rattle.entry_checks.specs.Definitions.{vias_in}
use Rattle.entry_checks.specs.FoundVias.{AreFound}
use Rattle.entry_checks.specs.OffLayerViews.{off_layer_text}
use Rattle.entry_checks.proofs.off_layers.put_special_items.Given as goal

abbrev pub invariant-loop-item : goal.invariant-loop-item
invariant-loop-item g l = record {
  put :
      l.lines ++ map (off_layer_text l.owner) (off_layer_vias (vias_in (g.K.Known.defined l.known)) l.layer (filter_map (via_of_item (λ (v : SpecialVia). v.via)) (items_of special_via l.left)))
      ≡ l.initial.lines ++ map (off_layer_text l.owner) (off_layer_vias (vias_in (g.K.Known.defined l.known)) l.fn.start (filter_map (via_of_item (λ (v : SpecialVia). v.via)) (items_of special_via l.fn.items)));
  found : AreFound (g.K.Known.defined l.known) l.vias;
}

abbrev pub decreases-loop-item : goal.decreases-loop-item
decreases-loop-item g l = l.left.most

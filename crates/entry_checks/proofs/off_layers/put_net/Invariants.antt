use Rattle.std.proofs.Common.{◌≡◌, ◌++◌, drop, map}
use Rattle.entry_references.specs.ReferenceViews.{references_view}
use Rattle.entry_checks.specs.Definitions.{vias_in}
use Rattle.entry_checks.specs.FoundVias.{AreFound}
use Rattle.entry_checks.specs.OffLayerViews.{off_layer_among, off_layer_text}
use Rattle.entry_checks.proofs.off_layers.put_net.Given as goal

abbrev pub invariant-loop-reference : goal.invariant-loop-reference
invariant-loop-reference g l = record {
  put :
      l.lines ++ map (off_layer_text l.owner) (off_layer_among (vias_in (g.K.Known.defined l.known)) l.layer (references_view (drop l.reference-index l.references)))
      ≡ l.initial.lines ++ map (off_layer_text l.owner) (off_layer_among (vias_in (g.K.Known.defined l.known)) l.initial.layer (references_view l.references));
  found : AreFound (g.K.Known.defined l.known) l.vias;
}

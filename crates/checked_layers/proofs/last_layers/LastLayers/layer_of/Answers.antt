use Rattle.checked_layers.proofs.LastLemmas.{as_found, found_more}
use Rattle.checked_layers.proofs.last_layers.LastLayers.layer_of.Goals as goal

pub invariant_of-self : goal.invariant_of-self
invariant_of-self g c =
    let layers = c.self.inside.library.now.layers in
    found_more layers c.self.inside.slots c.slot_of-slot.result c.checked_layer-found.result c.self.invariant (as_found layers c.args.name.now c.checked_layer-found.result c.checked_layer-found.ensures)

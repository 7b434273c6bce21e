-- Lines on vias that don't join the layer of their wire, by the entry that they stand in, and such vias among the references of
-- a net: a wire's layer comes before its vias.
use Rattle.std.specs.Prelude.{ℕ, List, [], ◌∷◌, ◌++◌}
use Rattle.design_model.specs.declared.diagnostic.DiagKind.TheVariants.{ViaLayer}
use Rattle.design_model.specs.Lines.{line_text}
use Rattle.wire_rules.specs.Paths.{layer_over, or_same}
use Rattle.entry_rules.specs.OffLayer.{ViaLayers, off_layer}
use Rattle.entry_rules.specs.References.{Reference, to_layer, to_via}
use Rattle.entry_checks.specs.declared.off_layers.Owner.{Owner}

-- `vialayer v S o`
abbrev pub off_layer_text : Owner → List ℕ → List ℕ
off_layer_text owner via = line_text ViaLayer (via ∷ owner.section.now ∷ owner.name.now ∷ []) []

-- a reference to a via that doesn't join a layer to another
abbrev pub off_layer_at : ViaLayers → List ℕ → Reference → List (List ℕ)
off_layer_at layers layer (to_via name) = off_layer layer name (layers name)
off_layer_at layers layer _ = []

-- the layer behind a reference: the one that it names, or the one that its via leads to
abbrev pub layer_behind : ViaLayers → List ℕ → Reference → List ℕ
layer_behind layers layer (to_layer name) = name
layer_behind layers layer (to_via name) = or_same layer (layer_over layer (layers name))
layer_behind layers layer _ = layer

-- of references one after the other, from a layer on, the vias that don't join
unfoldable pub off_layer_among : ViaLayers → List ℕ → List Reference → List (List ℕ)
off_layer_among layers layer [] = []
off_layer_among layers layer (r ∷ rs) = off_layer_at layers layer r ++ off_layer_among layers (layer_behind layers layer r) rs

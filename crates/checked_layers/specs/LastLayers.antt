-- Layers that were found by their names earlier.
use Rattle.std.specs.Prelude.{◌≡◌, List, Option, Some, IfSome, slice_get}
use Rattle.std.specs.List.{All}
use Rattle.design_model.specs.declared.identifier.LayerId.{LayerId}
use Rattle.lef_grammar.specs.Definitions.{Layer}
use Rattle.checked_layers.specs.CheckedLayers.{checked_place}

-- a layer of these is found by its name, as one of TYPE ROUTING or CUT
pub record IsFound (layers : List Layer) (layer : LayerId) : Type 0 where
  pub by_name : (l : Layer) → slice_get layers layer.0 ≡ Some l → checked_place layers l.name ≡ Some layer.0

pub record AreFound (layers : List Layer) (last : List (Option LayerId)) : Type 0 where
  pub each : All (λ o. IfSome o (IsFound layers)) last

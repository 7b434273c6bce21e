-- Layers of the program as those of the definitions.
use Rattle.std.specs.Prelude.{ℕ, List, map}
use Rattle.std.specs.Option.{option_map}
use Rattle.lef_grammar.specs.Definitions.{Layer, LayerKind, routing, cut, other}
use Rattle.unit_numbers.specs.Distances.{distance_of}
use Rattle.cell_library.specs.declared.layer.Layer as code_layer
use Rattle.cell_library.specs.declared.layer.LayerKind as code_kind
use Rattle.cell_library.specs.declared.layer.LayerKind.TheVariants as kinds

abbrev pub layer_name : Layer → List ℕ
layer_name l = l.name

abbrev pub kind_view : code_kind.LayerKind → LayerKind
kind_view kinds.Routing = routing
kind_view kinds.Cut = cut
kind_view kinds.Other = other

abbrev pub layer_view : List ℕ × code_layer.Layer → Layer
layer_view e = record { name = e.0; kind = kind_view e.1.kind; width = option_map distance_of e.1.width; spacing = option_map distance_of e.1.spacing }

abbrev pub layers_view : List (List ℕ × code_layer.Layer) → List Layer
layers_view es = map layer_view es

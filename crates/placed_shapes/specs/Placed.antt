-- Shapes under the places of their owners.
use Rattle.std.specs.Prelude.{ℕ, List, filter, map}
use Rattle.design_model.specs.declared.identifier.ShapeId.{ShapeId}
use Rattle.lef_grammar.specs.Measures.{Shape}
use Rattle.connection_rules.specs.PartClasses.{touch}
use Rattle.net_lists.specs.PartCuts.{shape_view}
use Rattle.net_lists.specs.declared.parts.NetShape as code
use Rattle.net_queries.specs.Held.{shape_of}
use Rattle.shape_index.specs.declared.shape.Shape.{Shape as Stored}

-- a shape as one of a set, under the place of its owner
abbrev pub stored : ℕ → code.NetShape → Stored
stored place s = record { layer = s.layer; rect = s.rect; net = place }

-- the shapes of a set, each with the place of its owner
abbrev pub placed_shape : Stored → ℕ × Shape
placed_shape s = (s.net, shape_of s)

abbrev pub placed_shapes : List (ShapeId × Stored) → List (ℕ × Shape)
placed_shapes entries = map (λ e. placed_shape e.1) entries

-- shapes of one owner
abbrev pub at_place : ℕ → List code.NetShape → List (ℕ × Shape)
at_place place shapes = map (λ s. (place, shape_view s)) shapes

-- the places of the shapes that touch one, each as often as such a shape has it
abbrev pub touched_by : List (ℕ × Shape) → Shape → List ℕ
touched_by placed s = map (λ p. p.0) (filter (λ p. touch p.1 s) placed)

-- The shapes of a pin of the design clause by clause, each where its port is placed.
use Rattle.std.specs.Prelude.{ℕ, Bool, true, false, List, [], ◌∷◌, ◌++◌, map, Option, Some, None, if◌then◌else◌}
use Rattle.std.specs.Option.{option_or}
use Rattle.design_model.specs.declared.geometry.Orient.{Orient}
use Rattle.design_model.specs.declared.geometry.Point.{Point}
use Rattle.def_grammar.specs.Pins.{PinClause, pin_port}
use Rattle.wire_rules.specs.ViaShapes.{NamedShape}
use Rattle.connection_rules.specs.PinShapes.{clause_shapes, placing_of_clause, turned_shape}

abbrev pub is_port : PinClause → Bool
is_port pin_port = true
is_port _ = false

-- the first place that clauses give up to the next PORT
abbrev pub place_ahead : List PinClause → Option (Point × Orient)
place_ahead [] = None
place_ahead (c ∷ cs) = if is_port c then None else option_or (placing_of_clause c) (place_ahead cs)

module _ (via_shapes : List ℕ → List NamedShape) where
  -- the shapes of a clause, where its port is placed
  abbrev pub clause_if : Option (Point × Orient) → PinClause → List NamedShape
  clause_if None c = []
  clause_if (Some p) c = map (turned_shape p) (clause_shapes via_shapes c)

  -- those of the clauses that are left, of which the first belong to a port with this place
  abbrev pub shapes_left : Option (Point × Orient) → List PinClause → List NamedShape
  shapes_left place [] = []
  shapes_left place (c ∷ cs) = if is_port c then shapes_left (place_ahead cs) cs else clause_if place c ++ shapes_left place cs

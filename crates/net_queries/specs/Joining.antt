-- Parts that are joined by the shapes that meet in a set.
use Rattle.std.specs.Prelude.{◌≡◌, ℕ, ◌-◌, List, map, filter, length}
use Rattle.design_model.specs.declared.identifier.ShapeId.{ShapeId}
use Rattle.lef_grammar.specs.Measures.{Shape}
use Rattle.shape_rules.specs.Classes.{AreBelow, all_joined}
use Rattle.connection_rules.specs.PartClasses.{touch}
use Rattle.line_laws.specs.Lines.{SameThings}
use Rattle.shape_index.specs.declared.shape.Shape.{Shape as Stored}
use Rattle.net_queries.specs.Held.{is_among, shape_of}

-- a part with each of so many parts from the first on that has a shape in a set which touches its own
abbrev pub joins_of : ℕ → ℕ → List (ShapeId × Stored) → ℕ × Shape → List (ℕ × ℕ)
joins_of first count entries own = map (λ e. (own.0, e.1.net - first)) (filter (λ e. is_among first count e.1.net) (filter (λ e. touch (shape_of e.1) own.1) entries))

-- labels after joins, each made as often as it stands in a list, in an order that is left open
pub record JoinedBy (before : List ℕ) (wanted : List (ℕ × ℕ)) (after : List ℕ) : Type 0 where
  pub joins : List (ℕ × ℕ)
  pub same : SameThings joins wanted
  pub below : AreBelow (length before) joins
  pub labels : after ≡ all_joined joins before

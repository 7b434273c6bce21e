-- The parts of a net in a set of shapes, each under a number that its shapes have there.
use Rattle.std.specs.Prelude.{ℕ, suc, ◌+◌, ◌-◌, nat_le, nat_lt, Bool, ◌&&◌, List, [], ◌∷◌, ◌++◌, map, filter, length}
use Rattle.design_model.specs.Views.{rectangle_of}
use Rattle.design_model.specs.declared.identifier.ShapeId.{ShapeId}
use Rattle.lef_grammar.specs.Measures.{Shape}
use Rattle.connection_rules.specs.NetParts.{Part}
use Rattle.line_laws.specs.Lines.{SameThings}
use Rattle.shape_index.specs.declared.shape.Shape.{Shape as Stored}

-- a shape of a set
abbrev pub shape_of : Stored → Shape
shape_of s = record { layer = s.layer.0; box = rectangle_of s.rect }

-- a number is one of so many from the first on
abbrev pub is_among : ℕ → ℕ → ℕ → Bool
is_among first count n = nat_le first n && nat_lt n (first + count)

-- the shapes of parts, each with its part's number, of which the first part has this one
abbrev pub shapes_from : ℕ → List Part → List (ℕ × Shape)
shapes_from n [] = []
shapes_from n (p ∷ ps) = map (λ s. (n, s)) p.shapes ++ shapes_from (suc n) ps

-- the shapes of a set under so many numbers from the first on, with the numbers counted from there
abbrev pub held_from : ℕ → ℕ → List (ShapeId × Stored) → List (ℕ × Shape)
held_from first count entries = map (λ e. (e.1.net - first, shape_of e.1)) (filter (λ e. is_among first count e.1.net) entries)

-- a set holds the shapes of parts under the numbers from the first on, and no others there
pub record HoldsParts (first : ℕ) (parts : List Part) (entries : List (ShapeId × Stored)) : Type 0 where
  pub same : SameThings (held_from first (length parts) entries) (shapes_from 0 parts)

-- The shapes of a net's parts in one list, and the parts that two of them join.
use Rattle.std.specs.Prelude.{ℕ, suc, Bool, ◌&&◌, ◌==◌, nat_lt, List, [], ◌∷◌, ◌++◌, length, map, slice_get, Option, Some, None, if◌then◌else◌}
use Rattle.design_model.specs.Views.{rectangle_of}
use Rattle.lef_grammar.specs.Measures.{Shape}
use Rattle.shape_rules.specs.Classes.{joined}
use Rattle.connection_rules.specs.NetParts.{Part}
use Rattle.shape_pairs.specs.declared.pairs.Numbered.{Numbered}
use Rattle.net_classes.specs.declared.part_shapes.PartShape.{PartShape}

-- a shape with its part's number
pub record OfPart : Type 0 where
  pub part : ℕ
  pub shape : Shape

abbrev pub of_part : PartShape → OfPart
of_part s = record { part = s.part; shape = record { layer = s.layer.0; box = rectangle_of s.rect } }

abbrev pub with_part : ℕ → List Shape → List OfPart
with_part n shapes = map (λ s. record { part = n; shape = s }) shapes

-- the shapes of parts, of which the first has this number
abbrev pub shapes_from : ℕ → List Part → List OfPart
shapes_from n [] = []
shapes_from n (p ∷ ps) = with_part n p.shapes ++ shapes_from (suc n) ps

-- the rectangles of shapes, of which the first has this number
abbrev pub numbered_from : ℕ → List PartShape → List Numbered
numbered_from n [] = []
numbered_from n (s ∷ ss) = record { rect = s.rect; id = n } ∷ numbered_from (suc n) ss

-- the parts of two shapes are joined where these lie on one layer, and there are such parts
abbrev pub join_them : ℕ → PartShape → PartShape → Bool
join_them n a b = (a.layer.0 == b.layer.0) && (nat_lt a.part n && nat_lt b.part n)

abbrev pub joined_by : PartShape → PartShape → List ℕ → List ℕ
joined_by a b ls = if join_them (length ls) a b then joined (a.part, b.part) ls else ls

-- the same, of shapes that may be there
abbrev pub joined_found : Option PartShape → Option PartShape → List ℕ → List ℕ
joined_found (Some a) (Some b) ls = joined_by a b ls
joined_found (Some a) None ls = ls
joined_found None b ls = ls

-- the same, of two shapes of a list
abbrev pub joined_at : List PartShape → ℕ → ℕ → List ℕ → List ℕ
joined_at ss a b ls = joined_found (slice_get ss a) (slice_get ss b) ls

-- Shapes of nets and barriers as things of one kind.
use Rattle.std.specs.Prelude.{◌≡◌, ℕ, Bool, ◌==◌, List, [], ◌++◌, filter, map, Option, Some, None, slice_get, Result, IfOk, Ok}
use Rattle.design_model.specs.Geometry.{Rectangle}
use Rattle.connection_rules.specs.NetLines.{Barrier, NetShape, routeblock_of, short_of}

pub data Thing : Type 0 where
  shape_of_net : NetShape → Thing
  barrier : Barrier → Thing

abbrev pub layer_of : Thing → ℕ
layer_of (shape_of_net s) = s.shape.layer
layer_of (barrier b) = b.layer

abbrev pub box_of : Thing → Rectangle
box_of (shape_of_net s) = s.shape.box
box_of (barrier b) = b.box

abbrev pub is_on : ℕ → Thing → Bool
is_on layer x = layer_of x == layer

-- of shapes those on a layer
abbrev pub shapes_on : ℕ → List NetShape → List Thing
shapes_on layer ss = filter (is_on layer) (map shape_of_net ss)

abbrev pub barriers_on : ℕ → List Barrier → List Thing
barriers_on layer bs = filter (is_on layer) (map barrier bs)

-- shapes, and barriers behind them
abbrev pub all_things : List NetShape → List Barrier → List Thing
all_things ss bs = map shape_of_net ss ++ map barrier bs

module _ (name_of : ℕ → List ℕ) where
  -- the lines of two things, of which the second stands behind the first; only barriers stand behind a barrier
  abbrev pub lines_of_two : Thing → Thing → List (List ℕ)
  lines_of_two (shape_of_net a) (shape_of_net b) = short_of name_of a b
  lines_of_two (shape_of_net s) (barrier b) = routeblock_of name_of s b
  lines_of_two (barrier b) x = []

  abbrev pub lines_of_found : Option Thing → Option Thing → List (List ℕ)
  lines_of_found (Some x) (Some y) = lines_of_two x y
  lines_of_found (Some x) None = []
  lines_of_found None y = []

  -- the lines of the things at two places
  abbrev pub lines_at : List Thing → ℕ → ℕ → List (List ℕ)
  lines_at xs i j = lines_of_found (slice_get xs i) (slice_get xs j)

-- where lines came of it, there were lines before, and these are added
abbrev pub Adds : {E : Type 0} → List (List ℕ) → Result (List (List ℕ)) E → Result (List (List ℕ)) E → Type 0
Adds more from to = IfOk to (λ l. (old : List (List ℕ)) × (from ≡ Ok old) × (l ≡ old ++ more))

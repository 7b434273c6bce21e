-- How many shapes of parts are near each other, and how many meet.
use Rattle.std.specs.Prelude.{◌≤◌, ◌+◌, ◌-◌, ◌^◌, ℕ, Bool, IsTrue, List, cond, min, sum_by}
use Rattle.lef_grammar.specs.Measures.{Shape}
use Rattle.connection_rules.specs.NetParts.{Part}
use Rattle.shape_index.specs.Near.{met_shapes, near_shape, near_shapes}
use Rattle.kept_nets.specs.Parts.{shapes_in}

-- how many shapes of parts are near each of these shapes, itself among them
abbrev pub near_in_parts : List Part → ℕ
near_in_parts ps = sum_by (λ (s : Shape). near_shapes s (shapes_in ps)) (shapes_in ps)

-- and how many meet it, itself among them
abbrev pub met_in_parts : List Part → ℕ
met_in_parts ps = sum_by (λ (s : Shape). met_shapes s (shapes_in ps)) (shapes_in ps)

-- how many shapes of these parts meet one of the first
abbrev pub met_between : List Part → List Part → ℕ
met_between ps qs = sum_by (λ (s : Shape). met_shapes s (shapes_in qs)) (shapes_in ps)

-- a count that ends at 2 ^ 64 - 1 grew by so many at least
abbrev pub GrewBy : ℕ → ℕ → ℕ → Type 0
GrewBy n before after = min (before + n) (2 ^ 64 - 1) ≤ after

-- all is told still only where it was before, and so many were counted for it at least
abbrev pub IsToldBy : Bool → Bool → ℕ → ℕ → ℕ → Type 0
IsToldBy old new n before after = IsTrue new → IsTrue old × GrewBy n before after

-- whether a shape is near itself
abbrev pub is_near_itself : Shape → Bool
is_near_itself s = near_shape s s

-- 1 for such a shape, and 0 for others
abbrev pub near_one : Shape → ℕ
near_one s = cond (is_near_itself s) 1 0

-- how many shapes of parts are such ones
abbrev pub near_themselves : List Part → ℕ
near_themselves ps = sum_by near_one (shapes_in ps)

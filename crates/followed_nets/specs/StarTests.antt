-- How many pairs of shapes are compared at most where pins of nets that are kept with their parts are exchanged.
use Rattle.std.specs.Prelude.{ℕ, ◌+◌, ◌≤◌, List, Option, IfSome, sum_by}
use Rattle.connection_rules.specs.NetParts.{Net}
use Rattle.kept_nets.specs.NearParts.{near_in_parts}

-- how many shapes of nets are near each shape of the same net
abbrev pub near_in_nets : List Net → ℕ
near_in_nets nets = sum_by (λ (n : Net). near_in_parts n.parts) nets

-- for nets that are kept so many are compared as are near each other before and then, after other tests
abbrev pub FewForStars : List Net → Option (List Net) → ℕ → ℕ → Type 0
FewForStars stars then_stars before tests = IfSome then_stars (λ then. tests ≤ before + (near_in_nets stars + near_in_nets then))

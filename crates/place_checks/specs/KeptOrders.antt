-- The orders of lists in which rows and patterns are looked up.
use Rattle.std.specs.Prelude.{◌≡◌, ◌==◌, ℕ, ℤ, false, List, [], slice_index_or, IsSortedByKey, if◌then◌else◌}
use Rattle.std.specs.Cmp.Lexicographic.{slice_cmp}
use Rattle.std.specs.List.{list_any}
use Rattle.std.specs.Ordering.{nat_cmp}
use Rattle.design_rules.specs.Surroundings.{Assignment, PlacedRow}
use Rattle.place_checks.specs.Patterns.{has_star}
use Rattle.place_checks.specs.declared.row_index.TheConstants.{NO_EDGE}

-- the edge by which a row is looked up
abbrev pub edge_in : PlacedRow → ℤ
edge_in row = if row.sites.rows == 1 then row.sites.origin.y else NO_EDGE

-- the pattern of an assignment by one
abbrev pub pattern_in : Assignment → List ℕ
pattern_in a = slice_index_or a.patterns 0 []

-- patterns without a star, in the order of their bytes
pub record AreInOrder (all : List Assignment) : Type 0 where
  pub sorted : IsSortedByKey pattern_in (slice_cmp nat_cmp) all
  pub starless : list_any (λ a. has_star (pattern_in a)) all ≡ false

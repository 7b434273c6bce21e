-- Patterns of components' names by themselves, and the regions that they assign a component to.
use Rattle.std.specs.Prelude.{◌≡◌, ℕ, Bool, not, ◌==◌, List, [], ◌∷◌, map, flat_map}
use Rattle.std.specs.List.{filter, list_any}
use Rattle.place_rules.specs.Patterns.{matches, star}
use Rattle.design_rules.specs.Boxes.{Boxed}
use Rattle.design_rules.specs.PlaceLines.{is_assigned, is_one_of}
use Rattle.design_rules.specs.Surroundings.{Assignment}
use Rattle.place_kernels.specs.Views.{starred_pattern}
use Rattle.place_checks.specs.declared.assigned.Assigned.{Assigned}
use Rattle.place_checks.specs.declared.assigned.Starred.{Starred}

abbrev pub has_star : List ℕ → Bool
has_star pattern = list_any (λ b. b == star) pattern

abbrev pub is_starred : Assigned → Bool
is_starred a = has_star a.pattern.now

-- an assignment by one pattern
abbrev pub assigned_view : Assigned → Assignment
assigned_view a = record { region = a.region.now; patterns = a.pattern.now ∷ [] }

abbrev pub starred_view : Starred → Assignment
starred_view a = record { region = a.region.now; patterns = starred_pattern a.pattern ∷ [] }

-- an assignment to a region by one pattern
abbrev pub pattern_view : List ℕ → List ℕ → Assignment
pattern_view region pattern = record { region = region; patterns = pattern ∷ [] }

-- an assignment for each pattern of one
abbrev pub by_pattern : Assignment → List Assignment
by_pattern a = map (pattern_view a.region) a.patterns

abbrev pub by_patterns : List Assignment → List Assignment
by_patterns all = flat_map by_pattern all

-- of such, those with a star, and those without
abbrev pub has_starred : Assignment → Bool
has_starred a = list_any has_star a.patterns

abbrev pub with_star : List Assignment → List Assignment
with_star all = filter has_starred all

abbrev pub without_star : List Assignment → List Assignment
without_star all = filter (λ a. not (has_starred a)) all

-- the regions of those whose patterns a name matches
abbrev pub regions_for : List ℕ → List Assignment → List (List ℕ)
regions_for name all = map (λ a. a.region) (filter (λ a. list_any (λ p. matches p name) a.patterns) all)

-- these are the regions that a component is assigned to
abbrev pub AreRegionsOf : List Assignment → Boxed → List (List ℕ) → Type 0
AreRegionsOf all c regions = (region : List ℕ) → is_one_of regions region ≡ is_assigned all c region

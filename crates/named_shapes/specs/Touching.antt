-- Nets that have shapes which touch others.
use Rattle.std.specs.Prelude.{◌≡◌, ℕ, Bool, true, not, ◌&&◌, List, slice_get, count_by}
use Rattle.std.specs.List.{list_any}
use Rattle.std.specs.Option.{option_map_or}
use Rattle.lef_grammar.specs.Measures.{Shape}
use Rattle.connection_rules.specs.NetLines.{NetShape}
use Rattle.connection_rules.specs.PartClasses.{touch}
use Rattle.net_laws.specs.NetChanges.{is_one_of}

-- a shape touches one of some
abbrev pub touches_one : List Shape → Shape → Bool
touches_one some s = list_any (λ o. touch s o) some

-- the name at a place is one of those that were found, if there is one
abbrev pub is_known : List (List ℕ) → List (List ℕ) → ℕ → Bool
is_known names found n = option_map_or (is_one_of found) (slice_get names n) true

-- each shape that touches one of some is of a net with one of these names
pub record AreTouching (shapes : List NetShape) (some : List Shape) (names : List (List ℕ)) : Type 0 where
  pub no_other : count_by (λ (s : NetShape). touches_one some s.shape && not (is_one_of names s.net)) shapes ≡ 0

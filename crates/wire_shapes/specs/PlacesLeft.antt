-- The places of an array of vias that are left to be given.
use Rattle.std.specs.Prelude.{◌≡◌, ℕ, ◌*◌, ◌-◌, ◌<◌, ◌≤◌, List, [], ◌∷◌, ◌++◌, flat_map, pos, Option, MatchOption}
use Rattle.design_model.specs.declared.geometry.Point.{Point}
use Rattle.wire_rules.specs.Paths.{line_of}
use Rattle.design_model.specs.Ranges.{IsPointWithin, IsWithin}
use Rattle.wire_shapes.specs.declared.via_places.ViaPlaces.{ViaPlaces}

-- those of a row, and those of the rows after it
abbrev pub places_left : ViaPlaces → List Point
places_left p = line_of p.in_row p.across p.at ++ flat_map (line_of p.columns p.across) (line_of p.rows p.up p.row)

-- how far a coordinate can be where n steps are left of 1000000
abbrev pub reach : ℕ → ℕ
reach n = 2147483647 * (1000001 - n)

-- the steps that are left lead to no place too far away
pub record IsInReach (p : ViaPlaces) : Type 0 where
  pub across : IsPointWithin 2147483647 p.across
  pub flat : p.across.y ≡ pos 0
  pub up : IsPointWithin 2147483647 p.up
  pub straight : p.up.x ≡ pos 0
  pub some : 0 < p.columns
  pub columns : p.columns ≤ 1000000
  pub in_row : p.in_row ≤ 1000000
  pub rows : p.rows ≤ 1000000
  pub at_x : IsWithin (reach p.in_row) p.at.x
  pub at_y : IsWithin (reach p.rows) p.at.y
  pub row_x : IsWithin 2147483647 p.row.x
  pub row_y : IsWithin (reach p.rows) p.row.y

-- a call gave the first of the places that were left, and the others are left; or none was left
abbrev pub GivesPlace : List Point → Option Point → List Point → Type 0
GivesPlace old found new = MatchOption found ((old ≡ []) × (new ≡ [])) (λ at. (old ≡ at ∷ new) × IsPointWithin (reach 0) at)

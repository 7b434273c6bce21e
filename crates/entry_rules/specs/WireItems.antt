-- The items of a path in numbers (LEF/DEF 5.8 Language Reference, "Regular Wiring Statement" and "Special Wiring Statement"):
-- a * repeats the coordinate of the path's last point, and a MASK is passed over.
use Rattle.std.specs.Prelude.{ℕ, ◌+◌, List, [], ◌∷◌, ◌++◌, Option, Some, None, ℤ, pos, nat_abs, if◌then◌else◌}
use Rattle.std.specs.Option.{option_map}
use Rattle.design_model.specs.declared.geometry.Orient.{Orient}
use Rattle.design_model.specs.declared.geometry.Orient.TheVariants.{N}
use Rattle.design_model.specs.declared.geometry.Point.{Point}
use Rattle.design_model.specs.Geometry.{spanned}
use Rattle.def_grammar.specs.Numbers.{int_of}
use Rattle.def_grammar.specs.Points.{Corners, place_after, place_of}
use Rattle.def_grammar.specs.Wiring as wiring
use Rattle.def_grammar.specs.Wiring.{Path, WirePoint, WireVia, SpecialVia, ViaArray}
use Rattle.wire_rules.specs.Paths as paths
use Rattle.wire_rules.specs.Paths.{PathItem, ViaUse}
use Rattle.wire_rules.specs.Sizes.{as_size, is_array}

abbrev pub turned_as : Option Orient → Orient
turned_as None = N
turned_as (Some o) = o

abbrev pub count_of : List ℕ → ℕ
count_of w = nat_abs (int_of w)

-- a via of NETS stands once
abbrev pub net_via : WireVia → ViaUse
net_via v = record { name = v.name; orient = turned_as v.orient; columns = 1; rows = 1; step = record { x = pos 0; y = pos 0 } }

abbrev pub via_in_array : ViaUse → Option ViaArray → ViaUse
via_in_array v None = v
via_in_array v (Some a) =
    if is_array (count_of a.columns) (count_of a.rows) then record v { columns = count_of a.columns; rows = count_of a.rows; step = place_of a.step }
    else v

-- one of SPECIALNETS stands once or in an array
abbrev pub special_via : SpecialVia → ViaUse
special_via v = via_in_array (net_via v.via) v.array

abbrev pub extension_of : WirePoint → Option ℤ
extension_of p = option_map (λ e. as_size (int_of e)) p.extension

module _ {Via : Type 0} (use_of : Via → ViaUse) where
  -- what an item gives, after a point
  abbrev pub item_after : Point → wiring.PathItem Via → List PathItem
  item_after at (wiring.path_mask word) = []
  item_after at (wiring.path_virtual to) = paths.jump_to (place_after at to) ∷ []
  item_after at (wiring.path_rectangle corners) = paths.patch (spanned (place_of corners.first) (place_of corners.second)) ∷ []
  item_after at (wiring.path_point to) = paths.to_point (place_after at to.at) (extension_of to) ∷ []
  item_after at (wiring.path_via via) = paths.use_via (use_of via) ∷ []

  -- where a path is after an item
  abbrev pub point_after_item : Point → wiring.PathItem Via → Point
  point_after_item at (wiring.path_virtual to) = place_after at to
  point_after_item at (wiring.path_point to) = place_after at to.at
  point_after_item at _ = at

  -- the items of a path after a point
  unfoldable pub items_after : Point → List (wiring.PathItem Via) → List PathItem
  items_after at [] = []
  items_after at (i ∷ is) = item_after at i ++ items_after (point_after_item at i) is

  -- where a path begins, how far its wire goes past that where it is said, and its items
  abbrev pub start_of : Path Via → Point
  start_of p = place_of p.start.at

  abbrev pub items_of : Path Via → List PathItem
  items_of p = items_after (start_of p) p.items

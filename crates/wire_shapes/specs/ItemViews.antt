-- The items of a path in the program as those of the definitions, and how far their numbers reach.
use Rattle.std.specs.Prelude.{◌≡◌, List, [], ◌∷◌, ℤ, Option, IfSome, MatchOption}
use Rattle.design_model.specs.declared.geometry.Point.{Point}
use Rattle.design_model.specs.Views.{rectangle_of}
use Rattle.wire_rules.specs.Paths.{ViaUse, PathItem, to_point, jump_to, patch, use_via}
use Rattle.design_model.specs.Ranges.{IsArray, IsBoxWithin, IsPointWithin, IsSize, IsWithin}
use Rattle.wire_shapes.specs.declared.path_items.ViaUse as code_via
use Rattle.wire_shapes.specs.declared.path_items.PathItem as code
use Rattle.wire_shapes.specs.declared.path_items.PathItem.TheVariants as items

abbrev pub via_use_view : code_via.ViaUse → ViaUse
via_use_view u = record { name = u.name.now; orient = u.orient; columns = u.columns; rows = u.rows; step = u.step }

abbrev pub item_view : code.PathItem → PathItem
item_view (items.ToPoint at past) = to_point at past
item_view (items.JumpTo at) = jump_to at
item_view (items.Patch rect) = patch (rectangle_of rect)
item_view (items.UseVia via) = use_via (via_use_view via)

-- a coordinate is within plus or minus 2147483647
abbrev pub IsCoordinate : ℤ → Type 0
IsCoordinate z = IsWithin 2147483647 z

abbrev pub IsPlace : Point → Type 0
IsPlace p = IsPointWithin 2147483647 p

abbrev pub IsPast : Option ℤ → Type 0
IsPast past = IfSome past IsSize

-- the numbers of an item are as large as the grammar of DEF lets them be
abbrev pub IsItemInRange : code.PathItem → Type 0
IsItemInRange (items.ToPoint at past) = IsPlace at × IsPast past
IsItemInRange (items.JumpTo at) = IsPlace at
IsItemInRange (items.Patch rect) = IsBoxWithin 2147483647 (rectangle_of rect)
IsItemInRange (items.UseVia via) = IsPlace via.step × IsArray via.columns via.rows

-- a call gave the first of the items that were left, and the others are left; or none was left
abbrev pub GivesItem : List PathItem → Option code.PathItem → List PathItem → Type 0
GivesItem old found new = MatchOption found ((old ≡ []) × (new ≡ [])) (λ i. (old ≡ item_view i ∷ new) × IsItemInRange i)

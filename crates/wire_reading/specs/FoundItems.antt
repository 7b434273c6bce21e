-- What an item of a text gives.
use Rattle.std.specs.Prelude.{◌≡◌, List, [], ◌∷◌, ◌++◌, Option, Some, None, IfSome, MatchOption}
use Rattle.wire_rules.specs.Paths.{PathItem, ViaUse}
use Rattle.design_model.specs.Ranges.{IsArray}
use Rattle.wire_shapes.specs.ItemViews.{IsItemInRange, IsPlace, item_view}
use Rattle.wire_shapes.specs.declared.path_items.PathItem as code_item
use Rattle.wire_shapes.specs.declared.path_items.ViaUse as code_via

-- a via's array is as large as the grammar of DEF lets it be
abbrev pub IsUseInRange : code_via.ViaUse → Type 0
IsUseInRange via = IsPlace via.step × IsArray via.columns via.rows

-- none, or one item
abbrev pub found_item : Option code_item.PathItem → List PathItem
found_item None = []
found_item (Some i) = item_view i ∷ []

-- a via as it stands in a path already
abbrev pub same : ViaUse → ViaUse
same u = u

-- of what was left, a call passed an item and gave what comes of it, and the rest is left; or none was left
abbrev pub EntersItem : List PathItem → Option (Option code_item.PathItem) → List PathItem → Type 0
EntersItem old found new = MatchOption found ((old ≡ []) × (new ≡ [])) (λ i. (old ≡ found_item i ++ new) × IfSome i IsItemInRange)

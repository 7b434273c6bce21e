-- Shapes and answers about vias in the program as those of the definitions.
use Rattle.std.specs.Prelude.{◌≡◌, ℕ, List, [], ◌∷◌, Option, Some, None, MatchOption}
use Rattle.design_model.specs.Views.{rectangle_of}
use Rattle.design_model.specs.Ranges.{IsBoxWithin}
use Rattle.wire_rules.specs.ViaShapes.{NamedShape}
use Rattle.wire_shapes.specs.declared.wiring_makings.LayerShape as code
use Rattle.wire_shapes.specs.declared.wiring_makings.ViaOn.{ViaOn}
use Rattle.wire_shapes.specs.declared.wiring_makings.ViaOn.TheVariants.{Unknown, Stays, Leads}

abbrev pub shape_view : code.LayerShape → NamedShape
shape_view s = record { layer = s.layer.now; box = rectangle_of s.rect }

-- a via isn't known; or it is, and joins the layer to none or to one
abbrev pub via_on_view : ViaOn → Option (Option (List ℕ))
via_on_view Unknown = None
via_on_view Stays = Some None
via_on_view (Leads layer) = Some (Some layer.now)

-- how far a via's shapes reach: 10 ^ 18, more than 1000000 cuts of any size
abbrev pub shape_reach : ℕ
shape_reach = 1000000000000000000

-- a call gave the first of the shapes that were left, and the others are left; or none was left
abbrev pub GivesShape : List NamedShape → Option code.LayerShape → List NamedShape → Type 0
GivesShape old found new = MatchOption found ((old ≡ []) × (new ≡ [])) (λ s. (old ≡ shape_view s ∷ new) × IsBoxWithin shape_reach (rectangle_of s.rect))

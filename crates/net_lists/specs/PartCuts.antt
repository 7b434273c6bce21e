-- Flat lists as parts: each head takes as many elements as it counts from what the heads before it left.
use Rattle.std.specs.Prelude.{◌≡◌, ℕ, List, [], ◌∷◌, map, take, drop, Option, MatchOption}
use Rattle.design_model.specs.Views.{rectangle_of}
use Rattle.lef_grammar.specs.Measures.{Shape}
use Rattle.connection_rules.specs.NetParts.{Part}
use Rattle.net_lists.specs.declared.part_views.PartView.{PartView}
use Rattle.net_lists.specs.declared.parts.NetShape.{NetShape}
use Rattle.net_lists.specs.declared.parts.PartHead.{PartHead}
use Rattle.net_lists.specs.Counts.{shape_count}

-- what heads make of a list that is cut into runs of the lengths that they count
abbrev pub cut : {H X Y : Type 0} → (H → ℕ) → (H → List X → Y) → List H → List X → List Y
cut count make [] xs = []
cut count make (h ∷ hs) xs = make h (take (count h) xs) ∷ cut count make hs (drop (count h) xs)

abbrev pub shape_view : NetShape → Shape
shape_view s = record { layer = s.layer.0; box = rectangle_of s.rect }

abbrev pub part_with : PartHead → List NetShape → Part
part_with p ss = record { is_pin = p.is_pin; shapes = map shape_view ss }

abbrev pub parts_of : List PartHead → List NetShape → List Part
parts_of ps ss = cut shape_count part_with ps ss

abbrev pub part_view : PartView → Part
part_view v = record { is_pin = v.is_pin; shapes = map shape_view v.shapes.now }

-- a call gave the first part that was left, or none was left
abbrev pub GivesPart : List Part → Option PartView → List Part → Type 0
GivesPart old found new = MatchOption found ((old ≡ []) × (new ≡ [])) (λ v. old ≡ part_view v ∷ new)

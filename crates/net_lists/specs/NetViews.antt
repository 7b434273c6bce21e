-- Flat lists as nets.
use Rattle.std.specs.Prelude.{◌≡◌, List, [], ◌∷◌, length, sum_by, Option, MatchOption}
use Rattle.connection_rules.specs.NetParts.{Net, Part}
use Rattle.net_lists.specs.declared.net_view.NetView.{NetView}
use Rattle.net_lists.specs.declared.parts.NetHead.{NetHead}
use Rattle.net_lists.specs.declared.parts.NetShape.{NetShape}
use Rattle.net_lists.specs.declared.parts.PartHead.{PartHead}
use Rattle.net_lists.specs.Counts.{part_count, shape_count}
use Rattle.net_lists.specs.Heads.{Head}
use Rattle.net_lists.specs.PartCuts.{cut, parts_of}

abbrev pub head_view : NetHead → Head
head_view h = record { name = h.name.now; is_power = h.is_power; parts = h.parts }

abbrev pub net_with : NetHead → List Part → Net
net_with h ps = record { name = h.name.now; is_power = h.is_power; parts = ps }

abbrev pub nets_of : List NetHead → List PartHead → List NetShape → List Net
nets_of hs ps ss = cut part_count net_with hs (parts_of ps ss)

abbrev pub net_view : NetView → Net
net_view v = net_with v.head.now (parts_of v.parts.now v.shapes.now)

-- what is counted is what there is
pub record AddUp (hs : List NetHead) (ps : List PartHead) (ss : List NetShape) : Type 0 where
  pub parts : sum_by part_count hs ≡ length ps
  pub shapes : sum_by shape_count ps ≡ length ss

-- a call gave the first net that was left, or none was left
abbrev pub GivesNet : List Net → Option NetView → List Net → Type 0
GivesNet old found new = MatchOption found ((old ≡ []) × (new ≡ [])) (λ v. old ≡ net_view v ∷ new)

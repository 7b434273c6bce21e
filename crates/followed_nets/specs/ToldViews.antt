-- What is told of a net in the program as in the definitions.
use Rattle.std.specs.Prelude.{ℕ, List, [], Option, Some, None, map, sum_by}
use Rattle.kept_nets.specs.Parts.{part_view}
use Rattle.net_lists.specs.PartCuts.{shape_view}
use Rattle.followed_nets.specs.Heads.{Head}
use Rattle.followed_nets.specs.Told.{Told}
use Rattle.followed_nets.specs.Touched.{StarPins}
use Rattle.followed_nets.specs.declared.heads.Head as code_head
use Rattle.followed_nets.specs.declared.told.ToldNet.{ToldNet}
use Rattle.followed_nets.specs.declared.touched.ToldStar.{ToldStar}
use Rattle.followed_nets.specs.declared.touched.TouchedComponent.{TouchedComponent}

abbrev pub told_view : {A : Type 0} → ToldNet A → Told
told_view t = record { name = t.name.items; lines = t.lines; shapes = map shape_view t.shapes.items }

-- how many pairs of shapes were compared to tell nets
abbrev pub tests_of : {A : Type 0} → List (ToldNet A) → ℕ
tests_of ts = sum_by (λ t. t.tests) ts

abbrev pub head_view : {A : Type 0} → code_head.Head A → Head
head_view h = record { name = h.name; mode = h.mode; bytes = h.bytes.items }

abbrev pub star_view : {A : Type 0} → ToldStar A → StarPins
star_view s = record { name = s.name; pins = map part_view s.pins.items }

-- what a component that is touched is to the nets that list a pin of all
abbrev pub stars_of : {A : Type 0} → Option (TouchedComponent A) → List StarPins
stars_of None = []
stars_of (Some c) = map star_view c.stars.items

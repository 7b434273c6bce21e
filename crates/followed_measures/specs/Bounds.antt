-- The least rectangle round others of which some are exchanged.
use Rattle.std.specs.Prelude.{◌≡◌, ◌&&◌, Bool, true, int_lt, List, ◌++◌, Option, map}
use Rattle.std.specs.List.{AllByRecursion}
use Rattle.design_model.specs.Geometry.{Rectangle}
use Rattle.lef_grammar.specs.Measures.{Shape}
use Rattle.measure_rules.specs.NetBoxes.{box_round}

abbrev pub boxes_in : List Shape → List Rectangle
boxes_in shapes = map (λ (s : Shape). s.box) shapes

-- the second rectangle lies in the first, away from its sides
abbrev pub is_inside : Rectangle → Rectangle → Bool
is_inside b r = (int_lt b.x1 r.x1 && int_lt r.x2 b.x2) && (int_lt b.y1 r.y1 && int_lt r.y2 b.y2)

abbrev pub AreInside : Rectangle → List Rectangle → Type 0
AreInside b rs = AllByRecursion (λ (r : Rectangle). is_inside b r ≡ true) rs

-- where the old rectangle is the least one round those that go and any others, the new one is that round those that come and these
abbrev pub BoxFollows : List Rectangle → List Rectangle → Option Rectangle → Option Rectangle → Type 0
BoxFollows gone come old new = (rest : List Rectangle) → old ≡ box_round (gone ++ rest) → new ≡ box_round (come ++ rest)

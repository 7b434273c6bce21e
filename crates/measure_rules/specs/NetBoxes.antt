-- The least rectangle round all shapes of a net (own).
use Rattle.std.specs.Prelude.{ℕ, List, [], ◌∷◌, map, flat_map, Option, Some, None}
use Rattle.std.specs.Int.{int_min, int_max}
use Rattle.std.specs.Option.{option_map}
use Rattle.design_model.specs.Geometry.{Rectangle}
use Rattle.form_meanings.specs.Firsts.{find_named}
use Rattle.def_grammar.specs.Records.{Record}
use Rattle.lef_grammar.specs.Library.{Library}
use Rattle.lef_grammar.specs.Measures.{Shape}
use Rattle.connection_rules.specs.NetParts.{Net, Part, all_nets}

-- the least rectangle round two
abbrev pub around : Rectangle → Rectangle → Rectangle
around a b = record { x1 = int_min a.x1 b.x1; y1 = int_min a.y1 b.y1; x2 = int_max a.x2 b.x2; y2 = int_max a.y2 b.y2 }

-- round one, and what is round others
abbrev pub around_all : Rectangle → Option Rectangle → Rectangle
around_all r None = r
around_all r (Some s) = around r s

-- round all of them, where there is one
unfoldable pub box_round : List Rectangle → Option Rectangle
box_round [] = None
box_round (r ∷ rs) = Some (around_all r (box_round rs))

abbrev pub rectangles_of : Net → List Rectangle
rectangles_of n = map (λ (s : Shape). s.box) (flat_map (λ (p : Part). p.shapes) n.parts)

-- the box of the net of a name, where there is one: none where it has no shape on a layer of TYPE ROUTING or CUT
abbrev pub net_box : Library → List Record → ℕ → List ℕ → Option (Option Rectangle)
net_box library design u name = option_map (λ n. box_round (rectangles_of n)) (find_named (λ (n : Net). n.name) (all_nets library design u) name)

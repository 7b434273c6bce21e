-- What an entry of BLOCKAGES blocks, and where (LEF/DEF 5.8 Language Reference, "Blockages"). Which of them count is (own).
use Rattle.std.specs.Prelude.{ℕ, Bool, true, false, List, [], ◌∷◌, Option, Some, None, codes}
use Rattle.std.specs.List.{filter_map, list_any}
use Rattle.std.specs.Str.{bytes_eq}
use Rattle.design_model.specs.Geometry.{Rectangle}
use Rattle.form_meanings.specs.Words.{first}
use Rattle.def_grammar.specs.Points.{corner_points, rectangles_of}
use Rattle.def_grammar.specs.Clauses.{KeptClause}
use Rattle.def_grammar.specs.Blockages.{Blockage, BlockageKind, BlockageShape, blocks_layer, blocks_placement, blocked_rectangle}

-- an entry that is soft or partial, or of SLOTS, FILLS or a component, gives no line
abbrev pub sparing_words : List (List ℕ)
sparing_words = codes "SOFT" ∷ codes "PARTIAL" ∷ codes "SLOTS" ∷ codes "FILLS" ∷ codes "COMPONENT" ∷ []

abbrev pub is_sparing : KeptClause → Bool
is_sparing c = list_any (bytes_eq c.keyword) sparing_words

abbrev pub is_spared : Blockage → Bool
is_spared b = list_any is_sparing b.clauses

abbrev pub is_of_placement : BlockageKind → Bool
is_of_placement (blocks_layer name) = false
is_of_placement blocks_placement = true

abbrev pub rectangle_of_shape : BlockageShape → Option Rectangle
rectangle_of_shape (blocked_rectangle corners) = first (rectangles_of (corner_points corners))
rectangle_of_shape _ = None

-- the rectangles of an entry, whatever it blocks
abbrev pub blocked_rectangles : Blockage → List Rectangle
blocked_rectangles b = filter_map rectangle_of_shape (b.first ∷ b.others)

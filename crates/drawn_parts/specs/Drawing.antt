-- Pieces that are drawn into the last of some nets, one after the other: a part is put in with its first shape on a layer of
-- TYPE ROUTING or CUT, so that one without such shapes never is.
use Rattle.std.specs.Prelude.{◌≡◌, ◌<◌, Bool, true, false, List, [], ◌∷◌, length, Option, Some, None, if◌then◌else◌}
use Rattle.lef_grammar.specs.Definitions.{Layer}
use Rattle.lef_grammar.specs.Measures.{Shape}
use Rattle.wire_rules.specs.Paths.{Piece}
use Rattle.wire_rules.specs.ViaShapes.{NamedShape}
use Rattle.connection_rules.specs.NetParts.{Net, goes_on, shapes_of}
use Rattle.connection_rules.specs.PinShapes.{checked_named}
use Rattle.net_lists.specs.Building.{last_parts, with_part, with_shape}
use Rattle.wire_shapes.specs.RuleViews.{shape_view}
use Rattle.wire_shapes.specs.declared.wiring_makings.LayerShape.{LayerShape}
use Rattle.drawn_parts.specs.declared.drawing.PartWalk.{PartWalk}

-- the nets, and whether the part of what is drawn at present stands there
pub record Drawing : Type 0 where
  pub is_begun : Bool
  pub nets : List Net

abbrev pub drawing : {A : Type 0} → PartWalk A → List Net → Drawing
drawing walk nets = record { is_begun = walk.is_begun; nets = nets }

-- there is a net, and it has a part where that is begun
pub record IsReady {A : Type 0} (walk : PartWalk A) (nets : List Net) : Type 0 where
  pub some : 0 < length nets
  pub begun : walk.is_begun ≡ true → 0 < length (last_parts nets)

abbrev pub named_shapes : Option LayerShape → List NamedShape
named_shapes None = []
named_shapes (Some s) = shape_view s ∷ []

abbrev pub with_part_if : Bool → List Net → List Net
with_part_if true nets = nets
with_part_if false nets = with_part false nets

-- a shape comes into the present part, which begins with it where it isn't begun
abbrev pub put_shape : Shape → Drawing → Drawing
put_shape s d = record { is_begun = true; nets = with_shape s (with_part_if d.is_begun d.nets) }

abbrev pub put_shapes : List Shape → Drawing → Drawing
put_shapes [] d = d
put_shapes (s ∷ ss) d = put_shapes ss (put_shape s d)

-- no part is begun
abbrev pub ended : Drawing → Drawing
ended d = record { is_begun = false; nets = d.nets }

module _ (layers : List Layer) where
  -- of some shapes, those on layers of TYPE ROUTING or CUT
  abbrev pub put_named : List NamedShape → Drawing → Drawing
  put_named shapes d = put_shapes (checked_named layers shapes) d

  -- a piece that isn't a further shape of the via before it ends the part before it
  abbrev pub put_piece : Piece → Drawing → Drawing
  put_piece p d = put_named (shapes_of p) (if goes_on (p ∷ []) then d else ended d)

  abbrev pub put_pieces : List Piece → Drawing → Drawing
  put_pieces [] d = d
  put_pieces (p ∷ ps) d = put_pieces ps (put_piece p d)

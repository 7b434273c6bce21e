-- Lines on what nets connect, and on shapes that touch what they shouldn't (own).
use Rattle.std.specs.Prelude.{ℕ, zero, suc, Bool, not, ◌&&◌, ◌==◌, nat_lt, List, [], ◌∷◌, ◌++◌, map, flat_map, Option, Some, None, ℤ, pos, codes, if◌then◌else◌}
use Rattle.std.specs.List.{list_any}
use Rattle.std.specs.Str.{bytes_eq}
use Rattle.design_model.specs.declared.diagnostic.DiagKind.{DiagKind}
use Rattle.design_model.specs.declared.diagnostic.DiagKind.TheVariants.{Short, RouteBlock, OpenNet, Unrouted, Floating}
use Rattle.design_model.specs.Families.{cross_lines, pair_lines}
use Rattle.design_model.specs.Geometry.{Rectangle, overlap}
use Rattle.design_model.specs.Lines.{line_text}
use Rattle.design_model.specs.Order.{greater, lesser}
use Rattle.form_meanings.specs.Words.{is_word}
use Rattle.def_grammar.specs.Blockages.{Blockage, BlockageKind, blocks, blocks_layer, blocks_placement}
use Rattle.def_grammar.specs.Clauses.{KeptClause}
use Rattle.def_grammar.specs.Records as records
use Rattle.def_grammar.specs.Records.{Record, entry}
use Rattle.lef_grammar.specs.Definitions as lef
use Rattle.lef_grammar.specs.Library.{Library}
use Rattle.lef_grammar.specs.Measures.{Shape, place_among}
use Rattle.shape_rules.specs.Meeting.{shared}
use Rattle.entry_rules.specs.Blocked.{blocked_rectangles, is_spared}
use Rattle.connection_rules.specs.NetParts.{Net, Part, all_nets}
use Rattle.connection_rules.specs.PartClasses.{touch, with_pins, without_pins}

-- the name of the layer at a place
unfoldable pub layer_name : List lef.Layer → ℕ → List ℕ
layer_name [] n = []
layer_name (l ∷ ls) zero = l.name
layer_name (l ∷ ls) (suc n) = layer_name ls n

abbrev pub corners_of : Rectangle → List ℤ
corners_of r = r.x1 ∷ r.y1 ∷ r.x2 ∷ r.y2 ∷ []

-- a shape of a net, with what its lines tell of the net, and whether it is drawn and not a pin's
pub record NetShape : Type 0 where
  pub net : List ℕ
  pub is_power : Bool
  pub is_drawn : Bool
  pub shape : Shape

-- a rectangle where routing on a layer is blocked, which may spare nets of power
pub record Barrier : Type 0 where
  pub layer : ℕ
  pub box : Rectangle
  pub spares_power : Bool

-- by a layer's name
module _ (name_of : ℕ → List ℕ) where
  -- `short a b l x1 y1 x2 y2`, a before b: shapes of two nets touch; what they share
  abbrev pub short_line : List ℕ → List ℕ → ℕ → Rectangle → List ℕ
  short_line a b layer box = line_text Short (lesser a b ∷ greater a b ∷ name_of layer ∷ []) (corners_of box)

  abbrev pub short_of : NetShape → NetShape → List (List ℕ)
  short_of a b =
      if not (bytes_eq a.net b.net) && touch a.shape b.shape then short_line a.net b.net a.shape.layer (shared a.shape.box b.shape.box) ∷ []
      else []

  -- a shape of a net overlaps a rectangle where its layer is blocked
  abbrev pub is_barred : NetShape → Barrier → Bool
  is_barred s b = s.is_drawn && (s.shape.layer == b.layer) && overlap s.shape.box b.box && not (s.is_power && b.spares_power)

  -- `routeblock n l x1 y1 x2 y2`: what they share
  abbrev pub routeblock_of : NetShape → Barrier → List (List ℕ)
  routeblock_of s b =
      if is_barred s b then line_text RouteBlock (s.net ∷ name_of b.layer ∷ []) (corners_of (shared s.shape.box b.box)) ∷ []
      else []

-- a line that names a net and a number, where the number is greater than another
abbrev pub count_line : DiagKind → List ℕ → ℕ → ℕ → List (List ℕ)
count_line kind name least k = if nat_lt least k then line_text kind (name ∷ []) (pos k ∷ []) ∷ [] else []

abbrev pub is_drawn : List Part → Bool
is_drawn parts = list_any (λ (p : Part). not p.is_pin) parts

-- `open n k`, or `unrouted n k` where nothing is drawn: more than one class holds a pin; and `floating n k`: some hold none
abbrev pub class_lines : Net → List (List ℕ)
class_lines n =
    count_line (if is_drawn n.parts then OpenNet else Unrouted) n.name 1 (with_pins n.parts)
    ++ count_line Floating n.name 0 (without_pins n.parts)

abbrev pub spares_power : KeptClause → Bool
spares_power c = is_word (codes "EXCEPTPGNET") c.keyword

abbrev pub barriers_on : Blockage → Option ℕ → List Barrier
barriers_on b None = []
barriers_on b (Some layer) = map (λ box. record { layer = layer; box = box; spares_power = list_any spares_power b.clauses }) (blocked_rectangles b)

abbrev pub barriers_of_kind : List lef.Layer → Blockage → BlockageKind → List Barrier
barriers_of_kind layers b (blocks_layer name) = if is_spared b then [] else barriers_on b (place_among layers name)
barriers_of_kind layers b blocks_placement = []

-- where an entry of BLOCKAGES blocks routing
abbrev pub barriers_of : List lef.Layer → Record → List Barrier
barriers_of layers (entry (records.blockage (blocks b))) = barriers_of_kind layers b b.kind
barriers_of layers _ = []

abbrev pub shapes_of_part : Net → Part → List NetShape
shapes_of_part n p = map (λ s. record { net = n.name; is_power = n.is_power; is_drawn = not p.is_pin; shape = s }) p.shapes

abbrev pub shapes_of_net : Net → List NetShape
shapes_of_net n = flat_map (shapes_of_part n) n.parts

module _ (library : Library) (design : List Record) (u : ℕ) where
  abbrev pub net_shapes : List NetShape
  net_shapes = flat_map shapes_of_net (all_nets library design u)

  abbrev pub barriers : List Barrier
  barriers = flat_map (barriers_of library.layers) design

  -- the families of lines on nets: of all pairs of shapes, of each shape with each barrier, and of each net
  abbrev pub net_lines : List (List ℕ)
  net_lines =
      pair_lines (short_of (layer_name library.layers)) net_shapes
      ++ (cross_lines (routeblock_of (layer_name library.layers)) net_shapes barriers ++ flat_map class_lines (all_nets library design u))

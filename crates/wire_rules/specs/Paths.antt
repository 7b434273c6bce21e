-- The pieces of a wire's path, over plain values in database units (LEF/DEF 5.8 Language Reference, "Regular Wiring" and
-- "Special Wiring").
use Rattle.std.specs.Prelude.{◌≡◌, ℕ, zero, suc, Bool, true, false, ◌&&◌, List, [], ◌∷◌, ◌++◌, flat_map, Option, Some, None, ℤ, pos, nat_abs, ◌+ℤ◌, ◌-ℤ◌, if◌then◌else◌}
use Rattle.std.specs.Int.Signed.{le_z}
use Rattle.std.specs.Str.{bytes_eq}
use Rattle.design_model.specs.declared.geometry.Orient.{Orient}
use Rattle.design_model.specs.declared.geometry.Point.{Point}
use Rattle.design_model.specs.Geometry.{Rectangle, moved}
use Rattle.wire_rules.specs.Placed.{turned_at}
use Rattle.wire_rules.specs.ViaShapes.{NamedShape, half}

-- a via in a path: its name, how it is turned, and how often it stands in x and in y, so far apart
pub record ViaUse : Type 0 where
  pub name : List ℕ
  pub orient : Orient
  pub columns : ℕ
  pub rows : ℕ
  pub step : Point

-- an item of a path after its first point: a point, with how far the wire goes past it where that is said; a point to which
-- no wire goes; a rectangle about the last point; or a via there
pub data PathItem : Type 0 where
  to_point : Point → Option ℤ → PathItem
  jump_to : Point → PathItem
  patch : Rectangle → PathItem
  use_via : ViaUse → PathItem

-- what a wire is made by: its width on each layer, how far it goes past its ends where nothing is said, by its width; and of a
-- via its layers that are of TYPE ROUTING, each once, and its shapes, where it is known
pub record WireMakings : Type 0 where
  pub width : List ℕ → ℤ
  pub past_end : ℤ → ℤ
  pub via_layers : List ℕ → Option (List (List ℕ))
  pub via_shapes : List ℕ → List NamedShape

-- where a path is: its layer, its last point, and what is said of how far the wire goes past that
pub record PathPlace : Type 0 where
  pub layer : List ℕ
  pub at : Point
  pub past : Option ℤ

-- what a path gives: a segment with its shape and its length along the centre; a diagonal one, which has no shape and no
-- length; a rectangle; one shape of a via, with the via's name and place, and whether it is the first of the via there; a via
-- that isn't known; and a via that doesn't join the path's layer to another
pub data Piece : Type 0 where
  segment : NamedShape → ℕ → Piece
  diagonal : Piece
  rectangle : NamedShape → Piece
  via_shape : List ℕ → Point → Bool → NamedShape → Piece
  unknown_via : List ℕ → Piece
  via_off_layer : List ℕ → Piece

abbrev pub past_of : ℤ → Option ℤ → ℤ
past_of default None = default
past_of default (Some past) = past

-- a segment along one axis, from a to b, where the wire goes so far past each: its lower and its upper end
abbrev pub stretch : ℤ → ℤ → ℤ → ℤ → ℤ × ℤ
stretch a past_a b past_b = if le_z a b then (a -ℤ past_a, b +ℤ past_b) else (b -ℤ past_b, a +ℤ past_a)

-- a wire of a width about a line
abbrev pub across : ℤ → ℤ → ℤ × ℤ
across centre width = (centre -ℤ half width, centre +ℤ (width -ℤ half width))

abbrev pub same_z : ℤ → ℤ → Bool
same_z a b = le_z a b && le_z b a

abbrev pub along_x : Point → ℤ → Point → ℤ → ℤ → Rectangle
along_x a past_a b past_b width =
    let x = stretch a.x past_a b.x past_b in
    let y = across a.y width in
    record { x1 = x.0; y1 = y.0; x2 = x.1; y2 = y.1 }

abbrev pub along_y : Point → ℤ → Point → ℤ → ℤ → Rectangle
along_y a past_a b past_b width =
    let x = across a.x width in
    let y = stretch a.y past_a b.y past_b in
    record { x1 = x.0; y1 = y.0; x2 = x.1; y2 = y.1 }

-- the wire between two points, which goes so far past each: along one axis, where one with equal ends lies in x; or diagonal
abbrev pub segment_between : List ℕ → ℤ → Point → ℤ → Point → ℤ → Piece
segment_between layer width a past_a b past_b =
    if same_z a.y b.y then segment (record { layer = layer; box = along_x a past_a b past_b width }) (nat_abs (b.x -ℤ a.x))
    else (if same_z a.x b.x then segment (record { layer = layer; box = along_y a past_a b past_b width }) (nat_abs (b.y -ℤ a.y))
    else diagonal)

-- the layer that a via leads to from the present one: the other of its two ROUTING layers
abbrev pub other_layer : List ℕ → List (List ℕ) → Option (List ℕ)
other_layer layer (a ∷ b ∷ []) = if bytes_eq a layer then Some b else (if bytes_eq b layer then Some a else None)
other_layer layer _ = None

abbrev pub layer_over : List ℕ → Option (List (List ℕ)) → Option (List ℕ)
layer_over layer None = None
layer_over layer (Some layers) = other_layer layer layers

abbrev pub or_same : List ℕ → Option (List ℕ) → List ℕ
or_same layer None = layer
or_same layer (Some other) = other

-- places so far apart in a line, and in rows of such lines
unfoldable pub line_of : ℕ → Point → Point → List Point
line_of zero step at = []
line_of (suc n) step at = at ∷ line_of n step (record { x = at.x +ℤ step.x; y = at.y +ℤ step.y })

abbrev pub array_of : ViaUse → Point → List Point
array_of u at = flat_map (line_of u.columns (record { x = u.step.x; y = pos 0 })) (line_of u.rows (record { x = pos 0; y = u.step.y }) at)

-- a shape of a via that stands at a point
abbrev pub turned_shape : Orient → Point → NamedShape → NamedShape
turned_shape o at s = record { layer = s.layer; box = turned_at o at s.box }

abbrev pub shape_at : ViaUse → Point → Bool → NamedShape → Piece
shape_at u at is_first s = via_shape u.name at is_first (turned_shape u.orient at s)

-- some shapes of a via at one place, of which the first may be the first of all
abbrev pub shapes_there : ViaUse → Point → Bool → List NamedShape → List Piece
shapes_there u at is_first [] = []
shapes_there u at is_first (s ∷ shapes) = shape_at u at is_first s ∷ shapes_there u at false shapes

-- the shapes of a via at one place
abbrev pub one_via : List NamedShape → ViaUse → Point → List Piece
one_via shapes u at = shapes_there u at true shapes

abbrev pub off_layer : List ℕ → Option (List ℕ) → List Piece
off_layer name None = via_off_layer name ∷ []
off_layer name (Some other) = []

module _ (rules : WireMakings) where
  -- how far the wire goes past a point of the present layer
  abbrev pub past_at : List ℕ → Option ℤ → ℤ
  past_at layer past = past_of (rules.past_end (rules.width layer)) past

  abbrev pub segment_to : PathPlace → Point → Option ℤ → Piece
  segment_to p b past = segment_between p.layer (rules.width p.layer) p.at (past_at p.layer p.past) b (past_at p.layer past)

  -- a via that is known stands at each place of its array, row by row
  abbrev pub known_via : List ℕ → Point → ViaUse → Option (List (List ℕ)) → List Piece
  known_via layer at u None = unknown_via u.name ∷ []
  known_via layer at u (Some layers) = flat_map (one_via (rules.via_shapes u.name) u) (array_of u at) ++ off_layer u.name (other_layer layer layers)

  abbrev pub via_pieces : List ℕ → Point → ViaUse → List Piece
  via_pieces layer at u = known_via layer at u (rules.via_layers u.name)

  -- what an item gives, and where the path is after it
  abbrev pub pieces_at : PathPlace → PathItem → List Piece
  pieces_at p (to_point b past) = segment_to p b past ∷ []
  pieces_at p (jump_to b) = []
  pieces_at p (patch r) = rectangle (record { layer = p.layer; box = moved p.at.x p.at.y r }) ∷ []
  pieces_at p (use_via u) = via_pieces p.layer p.at u

  abbrev pub place_after : PathPlace → PathItem → PathPlace
  place_after p (to_point b past) = record { layer = p.layer; at = b; past = past }
  place_after p (jump_to b) = record { layer = p.layer; at = b; past = None }
  place_after p (patch r) = p
  place_after p (use_via u) = record p { layer = or_same p.layer (layer_over p.layer (rules.via_layers u.name)) }

  -- the pieces of a path from a place on
  unfoldable pub pieces_from : PathPlace → List PathItem → List Piece
  pieces_from p [] = []
  pieces_from p (i ∷ is) = pieces_at p i ++ pieces_from (place_after p i) is

  unfoldable pub place_after_all : PathPlace → List PathItem → PathPlace
  place_after_all p [] = p
  place_after_all p (i ∷ is) = place_after_all (place_after p i) is

  -- The pieces of a path are those of its front, and then, from the place that this reaches, those of the rest.
  abbrev pub PiecesJoin : Type 0
  PiecesJoin = (p : PathPlace) (front rest : List PathItem) → pieces_from p (front ++ rest) ≡ pieces_from p front ++ pieces_from (place_after_all p front) rest

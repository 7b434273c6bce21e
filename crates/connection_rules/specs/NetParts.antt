-- The nets of a design and the parts of each, which hang together by themselves (LEF/DEF 5.8 Language Reference, "Nets" and
-- "Special Nets").
use Rattle.std.specs.Prelude.{ℕ, Bool, true, false, ◌||◌, if◌then◌else◌, List, [], ◌∷◌, ◌++◌, map, filter, flat_map, Option, Some, None, codes}
use Rattle.std.specs.List.{filter_map, list_any}
use Rattle.std.specs.Str.{bytes_eq}
use Rattle.form_meanings.specs.Words.{◌>>=◌, is_word}
use Rattle.form_meanings.specs.Firsts.{first_of, with_all}
use Rattle.def_grammar.specs.Points.{place_of}
use Rattle.def_grammar.specs.Terminals.{Terminal}
use Rattle.def_grammar.specs.Nets as nets
use Rattle.def_grammar.specs.Nets.{NetClause, is_net, net_use}
use Rattle.def_grammar.specs.SpecialNets as special
use Rattle.def_grammar.specs.SpecialNets.{PlacedVia, SpecialClause, special_rectangle, special_use, special_vias, via_points}
use Rattle.def_grammar.specs.Records as records
use Rattle.def_grammar.specs.Records.{Entry, Record, entry_of}
use Rattle.lef_grammar.specs.Definitions as lef
use Rattle.lef_grammar.specs.Library.{Library}
use Rattle.lef_grammar.specs.Measures.{Shape}
use Rattle.wire_rules.specs.Paths.{Piece, one_via, rectangle, segment, via_shape}
use Rattle.wire_rules.specs.ViaShapes.{NamedShape}
use Rattle.entry_rules.specs.WireItems.{net_via}
use Rattle.net_rules.specs.ViaRectangles.{box_of, via_shapes}
use Rattle.net_rules.specs.WirePieces.{net_pieces, special_net_pieces}
use Rattle.connection_rules.specs.PinShapes.{checked_named}
use Rattle.connection_rules.specs.Terminals.{NetPin, PinsByName, is_some_shape, net_pins, pins_by_name}

-- a part of a net: a pin that counts, with its placed shapes; or, of what is drawn, a segment or a rectangle, or a via at one
-- place with all of its shapes
pub record Part : Type 0 where
  pub is_pin : Bool
  pub shapes : List Shape

-- what an entry says of its net
pub record Wired : Type 0 where
  pub name : List ℕ
  pub is_power : Bool
  pub terminals : List Terminal
  pub pieces : List Piece

-- a net: its entries' name, whether one of them is of power, and its parts
pub record Net : Type 0 where
  pub name : List ℕ
  pub is_power : Bool
  pub parts : List Part

abbrev pub is_power_use : Option (List ℕ) → Bool
is_power_use None = false
is_power_use (Some word) = is_word (codes "POWER") word || is_word (codes "GROUND") word

abbrev pub use_of_clause : NetClause → Option (List ℕ)
use_of_clause (net_use word) = Some word
use_of_clause _ = None

abbrev pub use_of_special : SpecialClause → Option (List ℕ)
use_of_special (special_use word) = Some word
use_of_special _ = None

abbrev pub shapes_of : Piece → List NamedShape
shapes_of (segment s length) = s ∷ []
shapes_of (rectangle s) = s ∷ []
shapes_of (via_shape name at is_first s) = s ∷ []
shapes_of _ = []

-- the next piece is a further shape of the via at this place
abbrev pub goes_on : List Piece → Bool
goes_on (via_shape name at false s ∷ pieces) = true
goes_on _ = false

abbrev pub with_front : List NamedShape → List (List NamedShape) → List (List NamedShape)
with_front shapes [] = shapes ∷ []
with_front shapes (part ∷ parts) = (shapes ++ part) ∷ parts

-- the shapes that pieces draw, piece by piece, those of a via at one place together
unfoldable pub drawn : List Piece → List (List NamedShape)
drawn [] = []
drawn (p ∷ pieces) = if goes_on pieces then with_front (shapes_of p) (drawn pieces) else shapes_of p ∷ drawn pieces

abbrev pub drawn_part : List lef.Layer → List NamedShape → Part
drawn_part layers shapes = record { is_pin = false; shapes = checked_named layers shapes }

abbrev pub pin_part : NetPin → Part
pin_part p = record { is_pin = true; shapes = p.shapes }

abbrev pub has_shapes : Part → Bool
has_shapes p = is_some_shape p.shapes

-- the pins of a net that count, by its entries, and what these draw on layers of TYPE ROUTING or CUT
abbrev pub pin_parts : PinsByName → List ℕ → List Wired → List Part
pin_parts pins name ws = map pin_part (filter (λ (p : NetPin). p.counts) (net_pins pins name (flat_map (λ (w : Wired). w.terminals) ws)))

abbrev pub drawn_parts : List lef.Layer → List Wired → List Part
drawn_parts layers ws = filter has_shapes (map (drawn_part layers) (flat_map (λ (w : Wired). drawn w.pieces) ws))

-- the parts of a net by its entries
abbrev pub parts_of : List lef.Layer → PinsByName → List ℕ → List Wired → List Part
parts_of layers pins name ws = pin_parts pins name ws ++ drawn_parts layers ws

abbrev pub net_of : List lef.Layer → PinsByName → List ℕ → List Wired → Net
net_of layers pins name ws = record { name = name; is_power = list_any (λ (w : Wired). w.is_power) ws; parts = parts_of layers pins name ws }

module _ (library : Library) (design : List Record) (u : ℕ) where
  abbrev pub vias_at : PlacedVia → List Piece
  vias_at v = flat_map (λ p. one_via (via_shapes library design u v.via.name) (net_via v.via) (place_of p)) (via_points v)

  -- a rectangle or vias by themselves
  abbrev pub clause_pieces : SpecialClause → List Piece
  clause_pieces (special_rectangle layer corners) = rectangle (record { layer = layer; box = box_of corners }) ∷ []
  clause_pieces (special_vias v) = vias_at v
  clause_pieces _ = []

  abbrev pub wired_net : nets.Net → Wired
  wired_net n = record { name = n.name; is_power = is_power_use (first_of use_of_clause n.clauses); terminals = n.terminals; pieces = net_pieces library design u n }

  abbrev pub wired_special : special.SpecialNet → Wired
  wired_special n = record {
    name = n.name;
    is_power = is_power_use (first_of use_of_special n.clauses);
    terminals = n.terminals;
    pieces = special_net_pieces library design u n ++ flat_map clause_pieces n.clauses;
  }

  -- an entry of NETS, but for one of MUSTJOIN, or of SPECIALNETS
  abbrev pub wired_of : Entry → Option Wired
  wired_of (records.net (is_net n)) = Some (wired_net n)
  wired_of (records.special_net n) = Some (wired_special n)
  wired_of _ = None

  abbrev pub all_wired : List Wired
  all_wired = filter_map (λ r. entry_of r >>= wired_of) design

  -- the names of nets, each once
  abbrev pub net_names : List (List ℕ)
  net_names = with_all (λ name. name) [] (map (λ (w : Wired). w.name) all_wired)

  abbrev pub is_named : List ℕ → Wired → Bool
  is_named name w = bytes_eq w.name name

  -- entries of one name are one net
  abbrev pub net_named : List ℕ → Net
  net_named name = net_of library.layers (pins_by_name library design u) name (filter (is_named name) all_wired)

  abbrev pub all_nets : List Net
  all_nets = map net_named net_names

-- Worked rows of the sections PINS, REGIONS, GROUPS, BLOCKAGES, VIAS, NONDEFAULTRULES and those that are skipped, by computing.
use Rattle.std.proofs.Common.{◌≡◌, [], ◌∷◌, Some, None, refl, codes}
use Rattle.design_model.specs.declared.geometry.Orient.TheVariants.{N, FS}
use Rattle.design_model.specs.declared.geometry.Status.TheVariants.{Placed, Fixed, Cover}
use Rattle.def_grammar.specs.Points.{Corners, polygon_points}
use Rattle.def_grammar.specs.Pins.{spacing, design_rule_width, no_clearance, pin_placed, pin_net, pin_port, pin_has_rectangle, pin_has_via, pin_has_polygon, pin_kept, pin_form}
use Rattle.def_grammar.specs.Regions.{fence, guide, region_type, region_kept, region_points, region_form}
use Rattle.def_grammar.specs.Groups.{group_region, group_kept, region_named, group_form}
use Rattle.def_grammar.specs.Blockages.{blocks_layer, blocks_placement, blocked_rectangle, blocked_polygon, blocks, blockage_kept, blockage_form}
use Rattle.def_grammar.specs.Rules.{rule_has_layer, rule_kept, rule_form}
use Rattle.def_grammar.specs.DefVias.{via_has_rectangle, via_has_polygon, via_rule, cut_size, on_layers, cut_spacing, enclosure, row_col, via_origin, via_offset, via_kept, def_via_form}
use Rattle.def_grammar.specs.Skipped.{skipped_form}
use Rattle.definition_examples.proofs.Computing.{place_entries, wire_entries}
use Rattle.definition_examples.proofs.FormTexts.{tokens_of, Says, HasNoForm, IsBadAt, pt, kept}

-- two corners, at zero and at one
abbrev unit_corners : Corners
unit_corners = record { first = pt (codes "0") (codes "0"); second = pt (codes "1") (codes "1") }

-- a pin as tools write it
usual_pin : Says pin_form (codes "- a + NET n1 + DIRECTION INPUT + USE SIGNAL + LAYER met1 ( 0 0 ) ( 1 1 ) + PLACED ( 10 20 ) FS ;") (record {
  name = codes "a";
  clauses =
      pin_net (codes "n1") ∷ pin_kept (kept (codes "DIRECTION") (codes "INPUT")) ∷ pin_kept (kept (codes "USE") (codes "SIGNAL"))
      ∷ pin_has_rectangle (record { layer = codes "met1"; mask = None; clearance = no_clearance; corners = unit_corners })
      ∷ pin_placed Placed (pt (codes "10") (codes "20")) FS ∷ [];
})
unfolding place_entries wire_entries
usual_pin = refl

-- ports, with the other shapes, masks and clearances
pin_ports : Says pin_form (codes "- a + PORT + LAYER m MASK 1 SPACING -5 ( 0 0 ) ( 1 1 ) + FIXED ( 0 0 ) N + PORT + VIA v MASK 2 ( 3 4 ) + LAYER m DESIGNRULEWIDTH 7 ( 0 0 ) ( 1 1 ) + COVER ( 0 0 ) N ;")
    (record {
      name = codes "a";
      clauses =
          pin_port ∷ pin_has_rectangle (record { layer = codes "m"; mask = Some (codes "1"); clearance = spacing (codes "-5"); corners = unit_corners }) ∷ pin_placed Fixed (pt (codes "0") (codes "0")) N
          ∷ pin_port ∷ pin_has_via (record { name = codes "v"; mask = Some (codes "2"); at = pt (codes "3") (codes "4") })
          ∷ pin_has_rectangle (record { layer = codes "m"; mask = None; clearance = design_rule_width (codes "7"); corners = unit_corners }) ∷ pin_placed Cover (pt (codes "0") (codes "0")) N ∷ [];
    })
    × Says pin_form (codes "- a + POLYGON m MASK x \"s\" ( ;") (record { name = codes "a"; clauses = pin_has_polygon (codes "m") (tokens_of (codes "MASK x \"s\" (")) ∷ [] })
unfolding place_entries wire_entries
pin_ports = (refl, refl)

-- a clause of PINS that is listed must have its form; nothing stands between the name and the first clause
no_pins : HasNoForm pin_form (codes "- a x ;") × HasNoForm pin_form (codes "- a + NET ;") × HasNoForm pin_form (codes "- a + NET n m ;") × HasNoForm pin_form (codes "- a + PORT x ;")
    × HasNoForm pin_form (codes "- a + LAYER m ( 0 0 ) ;") × HasNoForm pin_form (codes "- a + LAYER m MASK 1 SPACING 1 DESIGNRULEWIDTH 2 ( 0 0 ) ( 1 1 ) ;")
    × HasNoForm pin_form (codes "- a + VIA v ( 0 0 ) ( 1 1 ) ;") × HasNoForm pin_form (codes "- a + POLYGON ;") × HasNoForm pin_form (codes "- a + PLACED ( 0 0 ) ;")
    × HasNoForm pin_form (codes "- a + + X ;") × HasNoForm pin_form (codes "- a + \"x\" ;") × HasNoForm pin_form (codes "- a + LAYER m MASK \"1\" ( 0 0 ) ( 1 1 ) ;")
unfolding place_entries wire_entries
no_pins = (refl, refl, refl, refl, refl, refl, refl, refl, refl, refl, refl, refl)

-- invalid numbers, and a * in the first point of a row and in a single point
bad_pins : IsBadAt pin_form (codes "- a + LAYER m SPACING x ( 0 0 ) ( 1 1 ) ;") 22 × IsBadAt pin_form (codes "- a + LAYER m ( * 0 ) ( 1 1 ) ;") 16 × IsBadAt pin_form (codes "- a + VIA v ( 0 * ) ;") 16
    × IsBadAt pin_form (codes "- a + PLACED ( * 0 ) N ;") 15
    × Says pin_form (codes "- a + LAYER m ( 0 0 ) ( 1 * ) ;") (record {
      name = codes "a";
      clauses =
          pin_has_rectangle (record { layer = codes "m"; mask = None; clearance = no_clearance; corners = record { first = pt (codes "0") (codes "0"); second = pt (codes "1") (codes "*") } }) ∷ [];
    })
unfolding place_entries wire_entries
bad_pins = (refl, refl, refl, refl, refl)

-- a region of two rectangles, whose corners are one row of points
regions_read : Says region_form (codes "- F ( 0 0 ) ( 920 2720 ) ( * 0 ) ( 1840 5440 ) + TYPE FENCE + X y ;") (record {
  name = codes "F";
  first = record { first = pt (codes "0") (codes "0"); second = pt (codes "920") (codes "2720") };
  others = record { first = pt (codes "*") (codes "0"); second = pt (codes "1840") (codes "5440") } ∷ [];
  clauses = region_type fence ∷ region_kept (kept (codes "X") (codes "y")) ∷ [];
})
    × (region_points (record { name = codes "F"; first = unit_corners; others = record { first = pt (codes "*") (codes "0"); second = pt (codes "5") (codes "*") } ∷ []; clauses = [] })
    ≡ pt (codes "0") (codes "0") ∷ pt (codes "1") (codes "1") ∷ pt (codes "1") (codes "0") ∷ pt (codes "5") (codes "0") ∷ [])
    × Says region_form (codes "- G ( 0 0 ) ( 1 1 ) + TYPE GUIDE ;") (record { name = codes "G"; first = unit_corners; others = []; clauses = region_type guide ∷ [] })
unfolding place_entries wire_entries
regions_read = (refl, refl, refl)

-- no rectangle, half of one, another type, and a type with more; invalid numbers
no_regions : HasNoForm region_form (codes "- F ;") × HasNoForm region_form (codes "- F ( 0 0 ) ;") × HasNoForm region_form (codes "- F ( 0 0 ) ( 1 1 ) ( 2 2 ) ;")
    × HasNoForm region_form (codes "- F ( 0 0 ) ( 1 1 ) + TYPE X ;") × HasNoForm region_form (codes "- F ( 0 0 ) ( 1 1 ) + TYPE FENCE X ;")
    × IsBadAt region_form (codes "- F ( * 0 ) ( 1 1 ) ;") 6 × IsBadAt region_form (codes "- F ( 0 0 ) ( 1 1 ) ( 2 x ) ( 3 3 ) ;") 24
unfolding place_entries wire_entries
no_regions = (refl, refl, refl, refl, refl, refl, refl)

-- groups: their patterns are words, and REGION means something with one name
groups_read : Says group_form (codes "- g u* a/b ( + REGION F + REGION ( 0 0 ) + SOFT ;") (record {
  name = codes "g";
  patterns = codes "u*" ∷ codes "a/b" ∷ codes "(" ∷ [];
  clauses = group_region (codes "F" ∷ []) ∷ group_region (tokens_of (codes "( 0 0 )")) ∷ group_kept (kept (codes "SOFT") []) ∷ [];
})
    × (region_named (group_region (codes "F" ∷ [])) ≡ Some (codes "F")) × (region_named (group_region (tokens_of (codes "( 0 0 )"))) ≡ None) × (region_named (group_region (codes "*" ∷ [])) ≡ None)
    × Says group_form (codes "- g ;") (record { name = codes "g"; patterns = []; clauses = [] })
    × HasNoForm group_form (codes "- g \"u\" ;") × HasNoForm group_form (codes "- g u + ;") × HasNoForm group_form (codes "- * u ;")
unfolding place_entries wire_entries
groups_read = (refl, refl, refl, refl, refl, refl, refl, refl)

-- blockages with clauses and several shapes, each with a row of points of its own
blockages_read : Says blockage_form (codes "- LAYER met1 + SLOTS + SPACING 5 RECT ( 0 0 ) ( 1 1 ) POLYGON ( 0 0 ) ( * 9 ) ( 7 * ) ( 8 8 ) ;") (blocks (record {
  kind = blocks_layer (codes "met1");
  clauses = kept (codes "SLOTS") [] ∷ kept (codes "SPACING") (codes "5") ∷ [];
  first = blocked_rectangle unit_corners;
  others = blocked_polygon (record { first = pt (codes "0") (codes "0"); second = pt (codes "*") (codes "9"); third = pt (codes "7") (codes "*"); others = pt (codes "8") (codes "8") ∷ [] }) ∷ [];
}))
    × Says blockage_form (codes "- PLACEMENT + SOFT RECT ( 0 0 ) ( 1 1 ) ;") (blocks (record { kind = blocks_placement; clauses = kept (codes "SOFT") [] ∷ []; first = blocked_rectangle unit_corners; others = [] }))
    × (polygon_points (record { first = pt (codes "0") (codes "0"); second = pt (codes "*") (codes "9"); third = pt (codes "7") (codes "*"); others = [] })
    ≡ pt (codes "0") (codes "0") ∷ pt (codes "0") (codes "9") ∷ pt (codes "7") (codes "9") ∷ [])
unfolding place_entries wire_entries
blockages_read = (refl, refl, refl)

-- entries kept for want of their form: with nothing, no shape, a clause behind the shapes, RECT as a clause's word, a + as
-- one, two points of a polygon, and a string for a number
blockages_kept : Says blockage_form (codes "- ;") (blockage_kept []) × Says blockage_form (codes "- LAYER m ;") (blockage_kept (tokens_of (codes "LAYER m")))
    × Says blockage_form (codes "- PLACEMENT RECT ( 0 0 ) ( 10 10 ) + SOFT ;") (blockage_kept (tokens_of (codes "PLACEMENT RECT ( 0 0 ) ( 10 10 ) + SOFT")))
    × Says blockage_form (codes "- LAYER m + RECT RECT ( 0 0 ) ( 1 1 ) ;") (blockage_kept (tokens_of (codes "LAYER m + RECT RECT ( 0 0 ) ( 1 1 )")))
    × Says blockage_form (codes "- LAYER m + + X RECT ( 0 0 ) ( 1 1 ) ;") (blockage_kept (tokens_of (codes "LAYER m + + X RECT ( 0 0 ) ( 1 1 )")))
    × Says blockage_form (codes "- PLACEMENT POLYGON ( 0 0 ) ( 1 1 ) ;") (blockage_kept (tokens_of (codes "PLACEMENT POLYGON ( 0 0 ) ( 1 1 )")))
    × Says blockage_form (codes "- PLACEMENT RECT ( 0 \"0\" ) ( x 1 ) ;") (blockage_kept (tokens_of (codes "PLACEMENT RECT ( 0 \"0\" ) ( x 1 )")))
    × HasNoForm blockage_form (codes "PLACEMENT RECT ( 0 0 ) ( 1 1 ) ;")
unfolding place_entries wire_entries
blockages_kept = (refl, refl, refl, refl, refl, refl, refl, refl)

-- invalid numbers of an entry with its form
bad_blockages : IsBadAt blockage_form (codes "- PLACEMENT RECT ( 0 0 ) ( 1 1 ) RECT ( * 0 ) ( 1 1 ) ;") 40 × IsBadAt blockage_form (codes "- LAYER m POLYGON ( 0 0 ) ( 1 1 ) ( 2 x ) ;") 38
unfolding place_entries wire_entries
bad_blockages = (refl, refl)

-- a generated via
generated_via : Says def_via_form (codes "- g + VIARULE r + CUTSIZE 150 150 + LAYERS m1 v1 m2 + CUTSPACING 170 170 + ENCLOSURE 85 55 55 -85 + ROWCOL 2 3 + ORIGIN -1 1 + OFFSET 1 2 3 4 + PATTERN 2_F0 ;")
    (record {
      name = codes "g";
      clauses =
          via_rule (codes "r") ∷ cut_size (pt (codes "150") (codes "150")) ∷ on_layers (record { bottom = codes "m1"; cut = codes "v1"; top = codes "m2" }) ∷ cut_spacing (pt (codes "170") (codes "170"))
          ∷ enclosure (record { bottom = pt (codes "85") (codes "55"); top = pt (codes "55") (codes "-85") }) ∷ row_col (record { rows = codes "2"; columns = codes "3" })
          ∷ via_origin (pt (codes "-1") (codes "1")) ∷ via_offset (record { bottom = pt (codes "1") (codes "2"); top = pt (codes "3") (codes "4") }) ∷ via_kept (kept (codes "PATTERN") (codes "2_F0")) ∷ [];
    })
unfolding place_entries wire_entries
generated_via = refl

-- rectangles and polygons, with a mask and without, and a polygon without points
listed_via : Says def_via_form (codes "- v + RECT m ( 0 0 ) ( 1 1 ) + RECT m + MASK 1 ( 0 0 ) ( 1 1 ) + POLYGON m ( 0 0 ) ( * 5 ) + POLYGON n ;") (record {
  name = codes "v";
  clauses =
      via_has_rectangle (record { layer = codes "m"; mask = None; corners = unit_corners }) ∷ via_has_rectangle (record { layer = codes "m"; mask = Some (codes "1"); corners = unit_corners })
      ∷ via_has_polygon (record { layer = codes "m"; mask = None; points = pt (codes "0") (codes "0") ∷ pt (codes "*") (codes "5") ∷ [] })
      ∷ via_has_polygon (record { layer = codes "n"; mask = None; points = [] }) ∷ [];
})
unfolding place_entries wire_entries
listed_via = refl

-- the longest fit of a polygon: its mask and points; its mask alone; where no points are behind the mask, the name alone,
-- and a clause MASK; and points before it
longest_polygons : Says def_via_form (codes "- v + POLYGON m + MASK 1 ( 0 0 ) ;") (record {
  name = codes "v";
  clauses =
      via_has_polygon (record { layer = codes "m"; mask = Some (codes "1"); points = pt (codes "0") (codes "0") ∷ [] }) ∷ [];
})
    × Says def_via_form (codes "- v + POLYGON m + MASK 1 + X ;") (record { name = codes "v"; clauses = via_has_polygon (record { layer = codes "m"; mask = Some (codes "1"); points = [] }) ∷ via_kept (kept (codes "X") []) ∷ [] })
    × Says def_via_form (codes "- v + POLYGON m + MASK 1 ( 0 ) ;") (record {
      name = codes "v";
      clauses =
          via_has_polygon (record { layer = codes "m"; mask = None; points = [] }) ∷ via_kept (kept (codes "MASK") (codes "1 ( 0 )")) ∷ [];
    })
    × Says def_via_form (codes "- v + POLYGON m ( 0 0 ) + MASK 1 ;") (record {
      name = codes "v";
      clauses =
          via_has_polygon (record { layer = codes "m"; mask = None; points = pt (codes "0") (codes "0") ∷ [] }) ∷ via_kept (kept (codes "MASK") (codes "1")) ∷ [];
    })
unfolding place_entries wire_entries
longest_polygons = (refl, refl, refl, refl)

-- clauses of VIAS that are listed and haven't their form
no_vias : HasNoForm def_via_form (codes "- v + RECT m + FOO ( 0 0 ) ( 1 1 ) ;") × HasNoForm def_via_form (codes "- v + RECT m ;") × HasNoForm def_via_form (codes "- v + POLYGON m ( 0 ) ;")
    × HasNoForm def_via_form (codes "- v + CUTSIZE 1 ;") × HasNoForm def_via_form (codes "- v + LAYERS a b ;") × HasNoForm def_via_form (codes "- v + ORIGIN 1 2 3 ;") × HasNoForm def_via_form (codes "- v + VIARULE ;")
    × HasNoForm def_via_form (codes "- v w ;")
unfolding place_entries wire_entries
no_vias = (refl, refl, refl, refl, refl, refl, refl, refl)

-- invalid numbers, also in a polygon that fits at two lengths; and the limits of cuts
bad_vias : IsBadAt def_via_form (codes "- v + POLYGON m + MASK 1 ( x 0 ) ;") 27 × IsBadAt def_via_form (codes "- v + RECT m ( * 0 ) ( 1 1 ) ;") 15 × IsBadAt def_via_form (codes "- v + CUTSIZE 1 -1 ;") 16
    × IsBadAt def_via_form (codes "- v + CUTSPACING -1 1 ;") 17 × IsBadAt def_via_form (codes "- v + ROWCOL 0 1 ;") 13 × IsBadAt def_via_form (codes "- v + ROWCOL 1 1000001 ;") 15
    × IsBadAt def_via_form (codes "- v + OFFSET 1 2 3 * ;") 19
unfolding place_entries wire_entries
bad_vias = (refl, refl, refl, refl, refl, refl, refl)

-- rules
rules_read : Says rule_form (codes "- r + HARDSPACING + LAYER m WIDTH 10 SPACING 5 + VIA v ;") (record {
  name = codes "r";
  clauses =
      rule_kept (kept (codes "HARDSPACING") []) ∷ rule_has_layer (record { layer = codes "m"; width = codes "10"; rest = tokens_of (codes "SPACING 5") }) ∷ rule_kept (kept (codes "VIA") (codes "v")) ∷ [];
})
    × HasNoForm rule_form (codes "- r + LAYER m SPACING 5 ;") × HasNoForm rule_form (codes "- r + LAYER m WIDTH ;") × IsBadAt rule_form (codes "- r + LAYER m WIDTH -1 ;") 20
unfolding place_entries wire_entries
rules_read = (refl, refl, refl, refl)

-- entries of the sections that are skipped
skipped_read : Says skipped_form (codes "- a \"b\" + + ( - ;") (tokens_of (codes "a \"b\" + + ( -")) × Says skipped_form (codes "- ;") [] × HasNoForm skipped_form (codes "a ;")
unfolding place_entries wire_entries
skipped_read = (refl, refl, refl)

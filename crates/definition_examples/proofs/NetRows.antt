-- Worked rows of the sections NETS and SPECIALNETS, by computing.
use Rattle.std.proofs.Common.{true, false, List, ℕ, [], ◌∷◌, Some, None, refl, codes}
use Rattle.design_model.specs.declared.geometry.Orient.TheVariants.{N, FW}
use Rattle.def_grammar.specs.Points.{Corners}
use Rattle.def_grammar.specs.Terminals.{Terminal}
use Rattle.def_grammar.specs.Wiring.{routed, fixed, cover, WirePoint, path_mask, path_virtual, path_rectangle, path_point, path_via, tapered, tapered_by, not_tapered, wire_shape, wire_style, wire_mask, noshield, wired, wiring, shields, special_wired}
use Rattle.def_grammar.specs.Nets.{net_subnet, net_use, net_rule, net_wiring, net_kept, must_join, is_net, net_form}
use Rattle.def_grammar.specs.SpecialNets.{special_subnet, special_use, special_shape_word, special_mask, special_rectangle, special_vias, special_polygon, special_has_wiring, special_kept, special_net_form}
use Rattle.definition_examples.proofs.Computing.{wire_entries}
use Rattle.definition_examples.proofs.FormTexts.{tokens_of, Says, HasNoForm, IsBadAt, pt, kept}

abbrev term : List ℕ → List ℕ → Terminal
term owner pin = record { owner = owner; pin = pin; is_synthesized = false }

-- a point of a path without an extension
abbrev wpt : List ℕ → List ℕ → WirePoint
wpt x y = record { at = pt x y; extension = None }

abbrev origin : WirePoint
origin = wpt (codes "0") (codes "0")

abbrev unit_corners : Corners
unit_corners = record { first = pt (codes "0") (codes "0"); second = pt (codes "1") (codes "1") }

-- terminals of components, of the design, of all components, and one that is SYNTHESIZED
terminals_read : Says net_form (codes "- n ( u1 Y ) ( PIN a ) ( * VDD ) ( u2 A + SYNTHESIZED ) ;") (is_net (record {
  name = codes "n";
  terminals =
      term (codes "u1") (codes "Y") ∷ term (codes "PIN") (codes "a") ∷ term (codes "*") (codes "VDD") ∷ record { owner = codes "u2"; pin = codes "A"; is_synthesized = true } ∷ [];
  clauses = [];
}))
    × HasNoForm net_form (codes "- n ( u1 ) ;") × HasNoForm net_form (codes "- n ( u1 * ) ;") × HasNoForm net_form (codes "- n ( u1 Y + X ) ;") × HasNoForm net_form (codes "- n ( u1 Y + SYNTHESIZED x ) ;")
    × HasNoForm net_form (codes "- n u1 Y ;") × HasNoForm net_form (codes "- n ( \"u\" Y ) ;") × HasNoForm net_form (codes "- * ;")
unfolding wire_entries
terminals_read = (refl, refl, refl, refl, refl, refl, refl, refl)

-- a net as tools write it
usual_net : Says net_form (codes "- n1 ( u1 Y ) + USE SIGNAL + NONDEFAULTRULE w + ROUTED met1 ( 700 1100 ) ( 1120 * ) M1M2 + X y ;") (is_net (record {
  name = codes "n1";
  terminals =
      term (codes "u1") (codes "Y") ∷ [];
  clauses =
      net_use (codes "SIGNAL") ∷ net_rule (codes "w")
      ∷ net_wiring (record {
        kind = wired routed;
        first = record {
          layer = codes "met1";
          taper = not_tapered;
          style = None;
          path = record {
            mask = None;
            start = wpt (codes "700") (codes "1100");
            items =
                path_point (wpt (codes "1120") (codes "*")) ∷ path_via (record { name = codes "M1M2"; orient = None }) ∷ [];
          };
        };
        others = [];
      })
      ∷ net_kept (kept (codes "X") (codes "y")) ∷ [];
}))
unfolding wire_entries
usual_net = refl

-- all that a path can hold, and several wires: tapers, a style, masks, extensions, a virtual point, a rectangle, and vias
-- with the orientation that stands right after them
full_wires : Says wiring (codes "NOSHIELD m1 TAPER MASK 1 ( 0 0 10 ) MASK 2 ( * 5 0 ) VIRTUAL ( 7 * ) RECT ( -1 -2 3 4 ) v1 N N NEW m2 TAPERRULE r STYLE 3 ( 0 0 ) v2 FW v3 NEW NEW ( 0 0 )") (record {
  kind = noshield;
  first = record {
    layer = codes "m1";
    taper = tapered;
    style = None;
    path = record {
      mask = Some (codes "1");
      start = record { at = pt (codes "0") (codes "0"); extension = Some (codes "10") };
      items =
          path_mask (codes "2") ∷ path_point (record { at = pt (codes "*") (codes "5"); extension = Some (codes "0") }) ∷ path_virtual (pt (codes "7") (codes "*"))
          ∷ path_rectangle (record { first = pt (codes "-1") (codes "-2"); second = pt (codes "3") (codes "4") })
          ∷ path_via (record { name = codes "v1"; orient = Some N }) ∷ path_via (record { name = codes "N"; orient = None }) ∷ [];
    };
  };
  others = record {
    layer = codes "m2";
    taper = tapered_by (codes "r");
    style = Some (codes "3");
    path = record {
      mask = None;
      start = origin;
      items =
          path_via (record { name = codes "v2"; orient = Some FW }) ∷ path_via (record { name = codes "v3"; orient = None }) ∷ [];
    };
  }
      ∷ record { layer = codes "NEW"; taper = not_tapered; style = None; path = record { mask = None; start = origin; items = [] } } ∷ [];
})
unfolding wire_entries
full_wires = refl

-- wiring without its form: no point, a path that begins with a via, two extensions, a string, an array of vias, TAPER after
-- STYLE, a + behind NEW
no_wires : HasNoForm wiring (codes "ROUTED met1") × HasNoForm wiring (codes "ROUTED met1 v ( 0 0 )") × HasNoForm wiring (codes "ROUTED met1 ( 0 0 ) ( 1 1 1 1 )") × HasNoForm wiring (codes "ROUTED met1 ( 0 0 \"s\" )")
    × HasNoForm wiring (codes "ROUTED met1 ( 0 0 ) v DO 2 BY 1 STEP 1 1") × HasNoForm wiring (codes "ROUTED met1 STYLE 1 TAPER ( 0 0 )") × HasNoForm wiring (codes "ROUTED met1 ( 0 0 ) NEW + X")
    × HasNoForm wiring (codes "SHIELD n met1 ( 0 0 )") × HasNoForm wiring (codes "ROUTED met1 ( 0 0 ) RECT v")
unfolding wire_entries
no_wires = (refl, refl, refl, refl, refl, refl, refl, refl, refl)

-- clauses that are kept for want of their form; one whose word is a + or a string has no form at all
net_clauses_kept : Says net_form (codes "- n + USE a b + USE + ROUTED met1 + NONDEFAULTRULE * + ROUTED met1 ( 150 * 0 0 ) \"s\" + SHIELD x ;") (is_net (record {
  name = codes "n";
  terminals = [];
  clauses =
      net_kept (kept (codes "USE") (codes "a b")) ∷ net_kept (kept (codes "USE") []) ∷ net_kept (kept (codes "ROUTED") (codes "met1")) ∷ net_kept (kept (codes "NONDEFAULTRULE") (codes "*"))
      ∷ net_kept (kept (codes "ROUTED") (codes "met1 ( 150 * 0 0 ) \"s\"")) ∷ net_kept (kept (codes "SHIELD") (codes "x")) ∷ [];
}))
    × HasNoForm net_form (codes "- n + + X ;") × HasNoForm net_form (codes "- n + USE + ;") × HasNoForm net_form (codes "- n + USE + + X ;") × HasNoForm net_form (codes "- n + \"x\" ;") × HasNoForm net_form (codes "- n + ;")
unfolding wire_entries
net_clauses_kept = (refl, refl, refl, refl, refl, refl)

-- invalid numbers: a * in the first point, as an extension and in a rectangle, an extension below 0, a style; and no number
-- is invalid in a clause that is kept
bad_nets : IsBadAt net_form (codes "- n + ROUTED met1 ( * 0 ) ( 1 0 ) ;") 20 × IsBadAt net_form (codes "- n + ROUTED met1 ( 0 0 * ) ;") 24 × IsBadAt net_form (codes "- n + ROUTED met1 ( 0 0 ) ( 1 * -1 ) ;") 32
    × IsBadAt net_form (codes "- n + ROUTED met1 ( 0 0 ) RECT ( 0 0 * 1 ) ;") 37 × IsBadAt net_form (codes "- n + ROUTED met1 STYLE x ( 0 0 ) ;") 24
    × IsBadAt net_form (codes "- n + ROUTED met1 ( 0 0 ) VIRTUAL ( * y ) NEW met1 ( * 0 ) ;") 38
    × Says net_form (codes "- n + ROUTED ( x 0 ) ;") (is_net (record { name = codes "n"; terminals = []; clauses = net_kept (kept (codes "ROUTED") (codes "( x 0 )")) ∷ [] }))
unfolding wire_entries
bad_nets = (refl, refl, refl, refl, refl, refl, refl)

-- MUSTJOIN and SUBNET take any tokens up to the ;
without_meaning : Says net_form (codes "- MUSTJOIN x \"s\" + ROUTED met1 ( x 0 ) + + ;") (must_join (tokens_of (codes "x \"s\" + ROUTED met1 ( x 0 ) + +"))) × Says net_form (codes "- MUSTJOIN ;") (must_join [])
    × Says net_form (codes "- n + USE a + SUBNET s ( u A ) + ROUTED met1 x ( 0 0 ) + ;") (is_net (record { name = codes "n"; terminals = []; clauses = net_use (codes "a") ∷ net_subnet (tokens_of (codes "s ( u A ) + ROUTED met1 x ( 0 0 ) +")) ∷ [] }))
    × Says special_net_form (codes "- P + SUBNET s + + ;") (record { name = codes "P"; terminals = []; clauses = special_subnet (tokens_of (codes "s + +")) ∷ [] })
    × Says special_net_form (codes "- MUSTJOIN ( * a ) ;") (record { name = codes "MUSTJOIN"; terminals = term (codes "*") (codes "a") ∷ []; clauses = [] })
unfolding wire_entries
without_meaning = (refl, refl, refl, refl, refl)

-- a special net as tools write it, with marks, an array of vias, and NEW
usual_special_net : Says special_net_form (codes "- VDD ( * VDD ) + USE POWER + ROUTED met1 480 + SHAPE FOLLOWPIN + STYLE 1 + MASK 2 ( 0 0 ) ( 100 * 5 ) NEW met2 0 ( 0 0 ) v N DO 2 BY 1 STEP 300 0 ;") (record {
  name = codes "VDD";
  terminals = term (codes "*") (codes "VDD") ∷ [];
  clauses = special_use (codes "POWER")
      ∷ special_has_wiring (record {
        kind = special_wired routed;
        wires =
            record {
              layer = codes "met1";
              width = codes "480";
              marks = wire_shape (codes "FOLLOWPIN") ∷ wire_style (codes "1") ∷ wire_mask (codes "2") ∷ [];
              path = record {
                mask = None;
                start = origin;
                items =
                    path_point (record { at = pt (codes "100") (codes "*"); extension = Some (codes "5") }) ∷ [];
              };
            }
            ∷ record {
              layer = codes "met2";
              width = codes "0";
              marks = [];
              path = record {
                mask = None;
                start = origin;
                items =
                    path_via (record { via = record { name = codes "v"; orient = Some N }; array = Some (record { columns = codes "2"; rows = codes "1"; step = pt (codes "300") (codes "0") }) }) ∷ [];
              };
            } ∷ [];
      }) ∷ [];
})
unfolding wire_entries
usual_special_net = refl

-- the other clauses: wiring without a wire, also before SHAPE by itself, a shield, and shapes
special_clauses_read : Says special_net_form (codes "- P + FIXED + COVER + SHAPE RING + SHIELD n m 1 ( 0 0 ) + MASK 1 + RECT m ( 0 0 ) ( 1 1 ) + VIA v FW ( 0 0 ) ( 1 * ) + VIA w ( 0 0 ) + POLYGON m ( 0 0 ) ( * 9 ) ( 7 * ) ( 8 8 ) ;")
    (record {
      name = codes "P";
      terminals = [];
      clauses =
          special_has_wiring (record { kind = special_wired fixed; wires = [] }) ∷ special_has_wiring (record { kind = special_wired cover; wires = [] }) ∷ special_shape_word (codes "RING")
          ∷ special_has_wiring (record { kind = shields (codes "n"); wires = record { layer = codes "m"; width = codes "1"; marks = []; path = record { mask = None; start = origin; items = [] } } ∷ [] })
          ∷ special_mask (codes "1") ∷ special_rectangle (codes "m") unit_corners
          ∷ special_vias (record { via = record { name = codes "v"; orient = Some FW }; first = pt (codes "0") (codes "0"); others = pt (codes "1") (codes "*") ∷ [] })
          ∷ special_vias (record { via = record { name = codes "w"; orient = None }; first = pt (codes "0") (codes "0"); others = [] })
          ∷ special_polygon (codes "m") (record { first = pt (codes "0") (codes "0"); second = pt (codes "*") (codes "9"); third = pt (codes "7") (codes "*"); others = pt (codes "8") (codes "8") ∷ [] }) ∷ [];
    })
unfolding wire_entries
special_clauses_read = refl

-- clauses that are kept for want of their form: wiring that a mark in its midst has no form for is kept up to that +, and
-- the mark is a clause of its own, with its form or without
special_clauses_kept : Says special_net_form (codes "- P + ROUTED met1 10 + SHAPE S ( 0 0 ) \"s\" + ROUTED m 1 + SHAPE T + NONDEFAULTRULE r + RECT m ( 0 0 ) + VIA v + POLYGON m ( 0 0 ) ( 1 1 ) + SHAPE + ROUTED m ( 0 0 ) ;")
    (record {
      name = codes "P";
      terminals = [];
      clauses =
          special_kept (kept (codes "ROUTED") (codes "met1 10")) ∷ special_kept (kept (codes "SHAPE") (codes "S ( 0 0 ) \"s\"")) ∷ special_kept (kept (codes "ROUTED") (codes "m 1")) ∷ special_shape_word (codes "T")
          ∷ special_kept (kept (codes "NONDEFAULTRULE") (codes "r")) ∷ special_kept (kept (codes "RECT") (codes "m ( 0 0 )")) ∷ special_kept (kept (codes "VIA") (codes "v"))
          ∷ special_kept (kept (codes "POLYGON") (codes "m ( 0 0 ) ( 1 1 )")) ∷ special_kept (kept (codes "SHAPE") []) ∷ special_kept (kept (codes "ROUTED") (codes "m ( 0 0 )")) ∷ [];
    })
    × HasNoForm special_net_form (codes "- P + ROUTED met1 10 + + X ;") × HasNoForm special_net_form (codes "- P x ;")
unfolding wire_entries
special_clauses_kept = (refl, refl, refl)

-- invalid numbers: a width below 0, a *, a style; in an array, each number of vias by itself, their product at the first of
-- them, before the steps, and only where both are good
bad_special_nets : IsBadAt special_net_form (codes "- P + ROUTED m -1 ( 0 0 ) ;") 15 × IsBadAt special_net_form (codes "- P + ROUTED m 1 ( 0 * ) ;") 21 × IsBadAt special_net_form (codes "- P + ROUTED m 1 + STYLE x ( 0 0 ) ;") 25
    × IsBadAt special_net_form (codes "- P + VIA v ( * 0 ) ;") 14 × IsBadAt special_net_form (codes "- P + RECT m ( 0 0 ) ( x 1 ) ;") 23
    × IsBadAt special_net_form (codes "- P + ROUTED met1 0 ( 0 0 ) M1M2 DO 1000 BY 1001 STEP 1 x ;") 36
    × IsBadAt special_net_form (codes "- P + ROUTED met1 0 ( 0 0 ) M1M2 DO 2000000 BY x STEP 1 1 ;") 47
    × IsBadAt special_net_form (codes "- P + ROUTED met1 0 ( 0 0 ) M1M2 DO 1000 BY 1000 STEP 1 x ;") 56
    × IsBadAt special_net_form (codes "- P + ROUTED met1 0 ( 0 0 ) M1M2 DO 0 BY 5 STEP 1 1 ;") 36 × IsBadAt special_net_form (codes "- P + ROUTED met1 0 ( 0 0 ) M1M2 DO 5 BY 0 STEP 1 1 ;") 41
unfolding wire_entries
bad_special_nets = (refl, refl, refl, refl, refl, refl, refl, refl, refl, refl)

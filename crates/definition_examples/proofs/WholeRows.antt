-- Worked rows of whole DEF texts with statements and sections of each kind, by computing.
use Rattle.std.proofs.Common.{◌≡◌, ◌++◌, List, ℕ, false, [], ◌∷◌, None, Ok, Err, refl, codes}
use Rattle.design_model.specs.declared.fault.FaultCode.{FaultCode}
use Rattle.design_model.specs.declared.fault.FaultCode.TheVariants.{NoForm, Unfinished, Number, NameTaken, Repeated}
use Rattle.design_model.specs.declared.geometry.Orient.TheVariants.{N, S}
use Rattle.design_model.specs.declared.geometry.Status.TheVariants.{Placed, Fixed}
use Rattle.design_model.specs.declared.mode.Section.{Section}
use Rattle.design_model.specs.declared.mode.Section.TheVariants.{Components, Pins, Regions, Groups, Blockages, Nets, SpecialNets, Vias, NonDefaultRules, ScanChains, PinProperties, Slots, Fills, Styles}
use Rattle.statement_model.specs.Reading.{fault_at}
use Rattle.def_grammar.specs.Blockages.{blocks, blocks_placement, blocked_rectangle, blockage_kept}
use Rattle.def_grammar.specs.Components.{placed, region as in_region}
use Rattle.def_grammar.specs.DefVias.{via_has_rectangle}
use Rattle.def_grammar.specs.Grids.{along_x, along_y}
use Rattle.def_grammar.specs.Groups.{group_region}
use Rattle.def_grammar.specs.Nets.{net_use, net_wiring, must_join, is_net}
use Rattle.def_grammar.specs.Pins.{pin_net, pin_placed}
use Rattle.def_grammar.specs.Points.{Corners}
use Rattle.def_grammar.specs.Properties.{property, end_properties}
use Rattle.def_grammar.specs.Records.{Record, top, in_properties, end_section, entry, component, pin, region, group, blockage, net, special_net, via, rule, skipped, read_def}
use Rattle.def_grammar.specs.Regions.{fence, region_type}
use Rattle.def_grammar.specs.Rules.{rule_has_layer}
use Rattle.def_grammar.specs.SpecialNets.{special_has_wiring}
use Rattle.def_grammar.specs.Top.{units, header, properties, end_design, extension, row, tracks, gcell_grid, kept}
use Rattle.def_grammar.specs.Wiring.{routed, WirePoint, path_point, not_tapered, wired, special_wired}
use Rattle.definition_examples.proofs.Computing.{def_texts}
use Rattle.definition_examples.proofs.DefRows.{units_line, row_of_two}
use Rattle.definition_examples.proofs.FormTexts.{tokens_of, pt}

-- a text of UNITS, these statements, and END DESIGN
abbrev text_of : List ℕ → List ℕ
text_of statements = units_line ++ (statements ++ codes "END DESIGN\n")

-- it reads as these records, between those of UNITS and of END DESIGN
abbrev ReadsAs : List ℕ → List Record → Type 0
ReadsAs statements recs = read_def (text_of statements) ≡ Ok (top (units (codes "1000")) ∷ (recs ++ top end_design ∷ []))

-- it has this fault
abbrev IsFaulty : List ℕ → FaultCode → ℕ → Type 0
IsFaulty statements code pos = read_def (text_of statements) ≡ Err (fault_at code pos)

abbrev box : List ℕ → List ℕ → List ℕ → List ℕ → Corners
box x1 y1 x2 y2 = record { first = pt x1 y1; second = pt x2 y2 }

abbrev unit_box : Corners
unit_box = box (codes "0") (codes "0") (codes "1") (codes "1")

-- a point of a path without an extension
abbrev wpt : List ℕ → List ℕ → WirePoint
wpt x y = record { at = pt x y; extension = None }

-- a row, a region, components, and a section without entries
regions_read : ReadsAs
    (codes "ROW r0 core 0 0 N DO 20 BY 1 STEP 460 0 ;\nREGIONS 1 ;\n- F ( 0 0 ) ( 920 2720 ) ( 920 0 ) ( 1840 5440 ) + TYPE FENCE ;\nEND REGIONS\nCOMPONENTS 2 ;\n- u1 INV + PLACED ( 460 0 ) N + REGION F ;\n- u2 INV ;\nEND COMPONENTS\nBLOCKAGES 0 ;\nEND BLOCKAGES\n")
    (top (row row_of_two)
    ∷ top (header Regions (codes "1"))
    ∷ entry (region (record {
      name = codes "F";
      first = box (codes "0") (codes "0") (codes "920") (codes "2720");
      others = box (codes "920") (codes "0") (codes "1840") (codes "5440") ∷ [];
      clauses = region_type fence ∷ [];
    }))
    ∷ end_section Regions
    ∷ top (header Components (codes "2"))
    ∷ entry (component (record { name = codes "u1"; cell = codes "INV"; rest = []; clauses = placed Placed (pt (codes "460") (codes "0")) N ∷ in_region (codes "F") ∷ [] }))
    ∷ entry (component (record { name = codes "u2"; cell = codes "INV"; rest = []; clauses = [] }))
    ∷ end_section Components
    ∷ top (header Blockages (codes "0"))
    ∷ end_section Blockages
    ∷ [])
unfolding def_texts
regions_read = refl

-- tracks, grids, and a special net
grids_read : ReadsAs
    (codes "TRACKS Y 5 DO 3 STEP 2 LAYER m ;\nGCELLGRID X 0 DO 3 STEP 100 ;\nGCELLGRID Y 0 DO 3 STEP 100 ;\nSPECIALNETS 1 ;\n- P + ROUTED met1 10 ( 50 55 ) ( 150 * ) ;\nEND SPECIALNETS\n")
    (top (tracks (record { axis = along_y; start = codes "5"; count = codes "3"; step = codes "2"; rest = tokens_of (codes "LAYER m") }))
    ∷ top (gcell_grid (record { axis = along_x; lines = record { start = codes "0"; count = codes "3"; step = codes "100" } }))
    ∷ top (gcell_grid (record { axis = along_y; lines = record { start = codes "0"; count = codes "3"; step = codes "100" } }))
    ∷ top (header SpecialNets (codes "1"))
    ∷ entry (special_net (record {
      name = codes "P";
      terminals = [];
      clauses = special_has_wiring (record {
        kind = special_wired routed;
        wires = record {
          layer = codes "met1";
          width = codes "10";
          marks = [];
          path = record { mask = None; start = wpt (codes "50") (codes "55"); items = path_point (wpt (codes "150") (codes "*")) ∷ [] };
        } ∷ [];
      }) ∷ [];
    }))
    ∷ end_section SpecialNets
    ∷ [])
unfolding def_texts
grids_read = refl

-- nets, of which one has no name
nets_read : ReadsAs (codes "NETS 2 ;\n- n1 ( u1 Y ) + USE SIGNAL + ROUTED met1 ( 700 1100 ) ( 1120 * ) ;\n- MUSTJOIN ( u2 A ) ;\nEND NETS\n")
    (top (header Nets (codes "2"))
    ∷ entry (net (is_net (record {
      name = codes "n1";
      terminals = record { owner = codes "u1"; pin = codes "Y"; is_synthesized = false } ∷ [];
      clauses =
          net_use (codes "SIGNAL")
          ∷ net_wiring (record {
            kind = wired routed;
            first = record {
              layer = codes "met1";
              taper = not_tapered;
              style = None;
              path = record { mask = None; start = wpt (codes "700") (codes "1100"); items = path_point (wpt (codes "1120") (codes "*")) ∷ [] };
            };
            others = [];
          })
          ∷ [];
    })))
    ∷ entry (net (must_join (tokens_of (codes "( u2 A )"))))
    ∷ end_section Nets
    ∷ [])
unfolding def_texts
nets_read = refl

-- pins and groups
pins_read : ReadsAs (codes "PINS 1 ;\n- a + NET n + FIXED ( 5 6 ) S ;\nEND PINS\nGROUPS 1 ;\n- g u* v + REGION F ;\nEND GROUPS\n")
    (top (header Pins (codes "1"))
    ∷ entry (pin (record { name = codes "a"; clauses = pin_net (codes "n") ∷ pin_placed Fixed (pt (codes "5") (codes "6")) S ∷ [] }))
    ∷ end_section Pins
    ∷ top (header Groups (codes "1"))
    ∷ entry (group (record { name = codes "g"; patterns = tokens_of (codes "u* v"); clauses = group_region (codes "F" ∷ []) ∷ [] }))
    ∷ end_section Groups
    ∷ [])
unfolding def_texts
pins_read = refl

-- vias and rules
vias_read : ReadsAs (codes "VIAS 1 ;\n- v + RECT m ( 0 0 ) ( 1 1 ) ;\nEND VIAS\nNONDEFAULTRULES 1 ;\n- w + LAYER m WIDTH 10 SPACING 5 ;\nEND NONDEFAULTRULES\n")
    (top (header Vias (codes "1"))
    ∷ entry (via (record { name = codes "v"; clauses = via_has_rectangle (record { layer = codes "m"; mask = None; corners = unit_box }) ∷ [] }))
    ∷ end_section Vias
    ∷ top (header NonDefaultRules (codes "1"))
    ∷ entry (rule (record { name = codes "w"; clauses = rule_has_layer (record { layer = codes "m"; width = codes "10"; rest = tokens_of (codes "SPACING 5") }) ∷ [] }))
    ∷ end_section NonDefaultRules
    ∷ [])
unfolding def_texts
vias_read = refl

-- blockages, which have no names: two that are the same, and one without its form
blockages_read : ReadsAs (codes "BLOCKAGES 3 ;\n- PLACEMENT RECT ( 0 0 ) ( 1 1 ) ;\n- PLACEMENT RECT ( 0 0 ) ( 1 1 ) ;\n- LAYER m ;\nEND BLOCKAGES\n")
    (top (header Blockages (codes "3"))
    ∷ entry (blockage (blocks (record { kind = blocks_placement; clauses = []; first = blocked_rectangle unit_box; others = [] })))
    ∷ entry (blockage (blocks (record { kind = blocks_placement; clauses = []; first = blocked_rectangle unit_box; others = [] })))
    ∷ entry (blockage (blockage_kept (tokens_of (codes "LAYER m"))))
    ∷ end_section Blockages
    ∷ [])
unfolding def_texts
blockages_read = refl

-- an entry of a section whose entries mean nothing, twice, which is no repeat
abbrev skipped_twice : Section → List ℕ → List ℕ → Type 0
skipped_twice s begin end = ReadsAs (begin ++ (codes " 2 ;\n- a + b ( ;\n- a + b ( ;\n" ++ end))
    (top (header s (codes "2"))
    ∷ entry (skipped s (tokens_of (codes "a + b (")))
    ∷ entry (skipped s (tokens_of (codes "a + b (")))
    ∷ end_section s
    ∷ [])

skipped_read : skipped_twice ScanChains (codes "SCANCHAINS") (codes "END SCANCHAINS\n") × skipped_twice PinProperties (codes "PINPROPERTIES") (codes "END PINPROPERTIES\n")
    × skipped_twice Slots (codes "SLOTS") (codes "END SLOTS\n") × skipped_twice Fills (codes "FILLS") (codes "END FILLS\n") × skipped_twice Styles (codes "STYLES") (codes "END STYLES\n")
unfolding def_texts
skipped_read = (refl, refl, refl, refl, refl)

-- definitions of properties, of which one is END, and a statement without meaning behind them
properties_read : ReadsAs (codes "PROPERTYDEFINITIONS\nCOMPONENT k STRING \"x ;\" ;\nEND ;\nEND PROPERTYDEFINITIONS\nVERSION 5.8 ;\n")
    (top properties
    ∷ in_properties (property (tokens_of (codes "COMPONENT k STRING \"x ;\"")))
    ∷ in_properties (property (codes "END" ∷ []))
    ∷ in_properties end_properties
    ∷ top (kept (codes "VERSION") (tokens_of (codes "5.8 ;")))
    ∷ [])
unfolding def_texts
properties_read = refl

-- property definitions again; within them another END, themselves, and an extension; and a text that ends in them
properties_refused : IsFaulty (codes "PROPERTYDEFINITIONS\nEND PROPERTYDEFINITIONS\nPROPERTYDEFINITIONS\nEND PROPERTYDEFINITIONS\n") Repeated 74
    × IsFaulty (codes "PROPERTYDEFINITIONS\nEND NETS\n") NoForm 50 × IsFaulty (codes "PROPERTYDEFINITIONS\nPROPERTYDEFINITIONS\n") NoForm 50 × IsFaulty (codes "PROPERTYDEFINITIONS\nBEGINEXT ; ENDEXT\n") NoForm 50
    × (read_def (units_line ++ codes "PROPERTYDEFINITIONS\n") ≡ Err (fault_at Unfinished 50))
unfolding def_texts
properties_refused = (refl, refl, refl, refl, refl)

-- extensions, which hold any tokens, and are no repeats; within a section there is none
extensions_read : ReadsAs (codes "BEGINEXT \"tag\" END NETS ; ENDEXT\nBEGINEXT ENDEXT\n") (top (extension (tokens_of (codes "\"tag\" END NETS ;"))) ∷ top (extension []) ∷ [])
    × IsFaulty (codes "NETS 0 ;\nBEGINEXT ; ENDEXT\nEND NETS\n") NoForm 39
unfolding def_texts
extensions_read = (refl, refl)

-- a second section of a kind, though without entries
sections_repeated : IsFaulty (codes "NETS 0 ;\nEND NETS\nNETS 0 ;\nEND NETS\n") Repeated 48 × IsFaulty (codes "FILLS 0 ;\nEND FILLS\nVIAS 0 ;\nEND VIAS\nFILLS 0 ;\nEND FILLS\n") Repeated 68
unfolding def_texts
sections_repeated = (refl, refl)

-- a second area, of other points; one without its form, or with a bad number, has that fault first
areas_repeated : IsFaulty (codes "DIEAREA ( 0 0 ) ( 1 1 ) ;\nDIEAREA ( 0 0 ) ( 0 2 ) ( 2 2 ) ;\n") Repeated 56 × IsFaulty (codes "DIEAREA ( 0 0 ) ( 1 1 ) ;\nDIEAREA ;\n") NoForm 56
    × IsFaulty (codes "DIEAREA ( 0 0 ) ( 1 1 ) ;\nDIEAREA ( x 0 ) ( 1 1 ) ;\n") Number 66
unfolding def_texts
areas_repeated = (refl, refl, refl)

-- rows of one name are no repeat
rows_again : ReadsAs (codes "ROW r0 core 0 0 N DO 20 BY 1 STEP 460 0 ;\nROW r0 core 0 0 N DO 20 BY 1 STEP 460 0 ;\n") (top (row row_of_two) ∷ top (row row_of_two) ∷ [])
unfolding def_texts
rows_again = refl

-- a name again in its section, in each section that has names; the net MUSTJOIN has none
names_taken : IsFaulty (codes "PINS 2 ;\n- a ;\n- a ;\nEND PINS\n") NameTaken 45 × IsFaulty (codes "REGIONS 2 ;\n- a ( 0 0 ) ( 1 1 ) ;\n- a ( 0 0 ) ( 2 2 ) ;\nEND REGIONS\n") NameTaken 64
    × IsFaulty (codes "GROUPS 2 ;\n- a ;\n- a ;\nEND GROUPS\n") NameTaken 47 × IsFaulty (codes "NETS 2 ;\n- a ;\n- a ;\nEND NETS\n") NameTaken 45 × IsFaulty (codes "SPECIALNETS 2 ;\n- a ;\n- a ;\nEND SPECIALNETS\n") NameTaken 52
    × IsFaulty (codes "VIAS 2 ;\n- a ;\n- a ;\nEND VIAS\n") NameTaken 45 × IsFaulty (codes "NONDEFAULTRULES 2 ;\n- a ;\n- a ;\nEND NONDEFAULTRULES\n") NameTaken 56
unfolding def_texts
names_taken = (refl, refl, refl, refl, refl, refl, refl)

-- one name in two sections, and nets without names
names_free : ReadsAs (codes "NETS 3 ;\n- a ;\n- MUSTJOIN ;\n- MUSTJOIN ;\nEND NETS\nVIAS 1 ;\n- a ;\nEND VIAS\n")
    (top (header Nets (codes "3"))
    ∷ entry (net (is_net (record { name = codes "a"; terminals = []; clauses = [] })))
    ∷ entry (net (must_join []))
    ∷ entry (net (must_join []))
    ∷ end_section Nets
    ∷ top (header Vias (codes "1"))
    ∷ entry (via (record { name = codes "a"; clauses = [] }))
    ∷ end_section Vias
    ∷ [])
unfolding def_texts
names_free = refl

-- the first statement of a text has an invalid number, or not its form
first_refused : (read_def (codes "DIEAREA ( * 0 ) ( 1 1 ) ;") ≡ Err (fault_at Number 10)) × (read_def (codes "ROW r core 0 0 Q ;") ≡ Err (fault_at NoForm 0))
    × (read_def (codes "TRACKS X 5 DO x STEP 1 ;") ≡ Err (fault_at Number 14)) × (read_def (codes "GCELLGRID X 0 DO 0 STEP 1 ;") ≡ Err (fault_at Number 17)) × (read_def (codes "NETS -1 ;") ≡ Err (fault_at Number 5))
unfolding def_texts
first_refused = (refl, refl, refl, refl, refl)

-- invalid numbers within entries
numbers_in_entries : IsFaulty (codes "REGIONS 1 ;\n- F ( 0 0 ) ( x 1 ) ;\nEND REGIONS\n") Number 56 × IsFaulty (codes "NETS 1 ;\n- n + ROUTED m ( * 0 ) ;\nEND NETS\n") Number 56
unfolding def_texts
numbers_in_entries = (refl, refl)

-- statements in a place that isn't theirs: an entry or the END of a section outside of it; within a section a
-- statement, a header, and property definitions; the END of another section, an entry of the form of another, and a
-- lone ;
out_of_place : IsFaulty (codes "- a ;\n") NoForm 30 × IsFaulty (codes "END NETS\n") NoForm 30 × IsFaulty (codes "NETS 0 ;\nVERSION 5.8 ;\n") NoForm 39
    × IsFaulty (codes "NETS 0 ;\nPINS 0 ;\n") NoForm 39 × IsFaulty (codes "NETS 0 ;\nPROPERTYDEFINITIONS\n") NoForm 39 × IsFaulty (codes "NETS 0 ;\nEND PINS\n") NoForm 39
    × IsFaulty (codes "NETS 1 ;\n- a INV ;\nEND NETS\n") NoForm 39 × IsFaulty (codes "FILLS 0 ;\n;\n") NoForm 40
unfolding def_texts
out_of_place = (refl, refl, refl, refl, refl, refl, refl, refl)

-- the first of two faults: an extension without its end, in a section; a second header with an invalid number
first_of_two : IsFaulty (codes "NETS 0 ;\nBEGINEXT ; END NETS\n") Unfinished 39 × IsFaulty (codes "NETS 0 ;\nEND NETS\nNETS x ;\n") Number 53
unfolding def_texts
first_of_two = (refl, refl)

-- Worked rows of the library of LEF texts, by computing.
use Rattle.std.proofs.Common.{◌≡◌, List, ℕ, [], ◌∷◌, ◌++◌, Some, None, Ok, Err, refl, codes}
use Rattle.design_model.specs.declared.fault.FaultCode.TheVariants.{Unfinished}
use Rattle.design_model.specs.Units.{Distance, distance, whole}
use Rattle.form_meanings.specs.Meaning.{repeat}
use Rattle.form_meanings.specs.Words.{number_at, split_at}
use Rattle.statement_model.specs.Tokens.{lex}
use Rattle.statement_model.specs.Boundaries.{last_of}
use Rattle.statement_model.specs.Reading.{fault_at, read_on, read_text}
use Rattle.lef_grammar.specs.Extents.{is_extent, is_distance, is_array_count, kept_statement, to_end, size_statement, point, two_points, corners}
use Rattle.lef_grammar.specs.Outermost.{outermost_statement, named_header, bare_header}
use Rattle.lef_grammar.specs.LayerBlock.{layer_statement, type_statement, width_statement, spacing_statement}
use Rattle.lef_grammar.specs.SiteBlock.{site_statement}
use Rattle.lef_grammar.specs.ViaBlock.{via_statement, via_shape, via_corners, via_cuts, via_metals, four_distances}
use Rattle.lef_grammar.specs.RuleBlock.{rule_statement, rule_layer_statement}
use Rattle.lef_grammar.specs.MacroBlock.{class_statement, origin_statement, macro_site_statement, inner_header, macro_statement}
use Rattle.lef_grammar.specs.PinBlock.{pin_statement}
use Rattle.lef_grammar.specs.PortBlock.{port_rect_statement, port_rect_where, port_statement}
use Rattle.lef_grammar.specs.KeptBlocks.{closed_by, closed_alone, extension_token, generating_statement, kept_block_statement}
use Rattle.lef_grammar.specs.LefRecords.{lef_statement, fault_on}
use Rattle.std.specs.Prelude.{ℤ, pos, neg_ℤ}
use Rattle.form_meanings.specs.Firsts.{front, headed, with_all}
use Rattle.lef_grammar.specs.Definitions.{Distances, Layer, Macro, Pin, LayerShapes, Via, routing, cut, other, listed, generated}
use Rattle.lef_grammar.specs.Library.{Library, library_of, empty_library, macro_named}
use Rattle.lef_grammar.specs.Measures.{Shape, shapes_in, pin_shapes, point_or_0}

-- the inverter library
abbrev header_text : List ℕ
header_text = codes "VERSION 5.8 ; UNITS DATABASE MICRONS 1000 ; END UNITS "

abbrev layers_text : List ℕ
layers_text = codes "LAYER met1 TYPE ROUTING ; WIDTH 0.14 ; SPACING 0.14 ; END met1 LAYER via1 TYPE CUT ; END via1 LAYER met2 TYPE ROUTING ; WIDTH 0.14 ; SPACING 0.14 ; END met2 "

abbrev via_text : List ℕ
via_text = codes "VIA M1M2 DEFAULT LAYER met1 ; RECT -0.1 -0.1 0.1 0.1 ; LAYER via1 ; RECT -0.05 -0.05 0.05 0.05 ; LAYER met2 ; RECT -0.1 -0.1 0.1 0.1 ; END M1M2 "

abbrev site_text : List ℕ
site_text = codes "SITE core CLASS CORE ; SIZE 0.46 BY 2.72 ; END core "

abbrev macro_text : List ℕ
macro_text = codes "MACRO INV CLASS CORE ; ORIGIN 0 0 ; SIZE 0.92 BY 2.72 ; SITE core ; PIN A PORT LAYER met1 ; RECT 0.1 1 0.3 1.2 ; END END A PIN Y PORT LAYER met1 ; RECT 0.6 1 0.8 1.2 ; END END Y PIN VDD PORT LAYER met1 ; RECT 0 2.48 0.92 2.72 ; END END VDD END INV END LIBRARY"

-- a distance of this many 10 ^ places-th parts of a micron
abbrev microns : ℤ → ℕ → Distance
microns value places = record { value = value; places = places }

abbrev inverter_text : List ℕ
inverter_text = header_text ++ layers_text ++ via_text ++ site_text ++ macro_text

abbrev pin_on_met1 : List ℕ → Distance → Distance → Distance → Distance → Pin
pin_on_met1 name x1 y1 x2 y2 = record {
  name = name;
  shapes = record { layer = codes "met1"; rectangles = ((x1, y1), (x2, y2)) ∷ [] } ∷ [];
  unchecked = 0;
}

abbrev inverter : Macro
inverter = record {
  name = codes "INV";
  class = Some (codes "CORE");
  size = Some ((microns (pos 92) 2), (microns (pos 272) 2));
  origin = Some ((microns (pos 0) 0), (microns (pos 0) 0));
  sites = codes "core" ∷ [];
  pins = pin_on_met1 (codes "A") (microns (pos 1) 1) (microns (pos 1) 0) (microns (pos 3) 1) (microns (pos 12) 1) ∷ pin_on_met1 (codes "Y") (microns (pos 6) 1) (microns (pos 1) 0) (microns (pos 8) 1) (microns (pos 12) 1) ∷ pin_on_met1 (codes "VDD") (microns (pos 0) 0) (microns (pos 248) 2) (microns (pos 92) 2) (microns (pos 272) 2) ∷ [];
}

abbrev square_on : List ℕ → Distance → Distance → LayerShapes
square_on on low high = record { layer = on; rectangles = ((low, low), (high, high)) ∷ [] }

abbrev inverter_library : Library
inverter_library = record {
  layers = record { name = codes "met1"; kind = routing; width = Some (microns (pos 14) 2); spacing = Some (microns (pos 14) 2) }
      ∷ record { name = codes "via1"; kind = cut; width = None; spacing = None }
      ∷ record { name = codes "met2"; kind = routing; width = Some (microns (pos 14) 2); spacing = Some (microns (pos 14) 2) }
      ∷ [];
  sites = record { name = codes "core"; size = Some ((microns (pos 46) 2), (microns (pos 272) 2)) } ∷ [];
  vias = record { name = codes "M1M2"; body = listed (square_on (codes "met1") (microns (neg_ℤ (pos 1)) 1) (microns (pos 1) 1) ∷ square_on (codes "via1") (microns (neg_ℤ (pos 5)) 2) (microns (pos 5) 2) ∷ square_on (codes "met2") (microns (neg_ℤ (pos 1)) 1) (microns (pos 1) 1) ∷ []); unchecked = 0 } ∷ [];
  rules = [];
  macros = inverter ∷ [];
}

-- libraries of one kind alone
abbrev of_layers : List Layer → Library
of_layers ls = record { layers = ls; sites = []; vias = []; rules = []; macros = [] }

abbrev of_vias : List Via → Library
of_vias vs = record { layers = []; sites = []; vias = vs; rules = []; macros = [] }

abbrev of_macros : List Macro → Library
of_macros ms = record { layers = []; sites = []; vias = []; rules = []; macros = ms }

-- the library of a text with no definitions, and the inverter library
library_read : (library_of ([] ∷ []) ≡ Ok empty_library) × (library_of (inverter_text ∷ []) ≡ Ok inverter_library)
unfolding read_text read_on lex last_of repeat split_at number_at is_extent is_distance is_array_count kept_statement distance whole to_end size_statement point two_points corners outermost_statement named_header bare_header layer_statement type_statement width_statement spacing_statement site_statement via_statement via_shape via_corners via_cuts via_metals four_distances rule_statement rule_layer_statement macro_statement class_statement origin_statement macro_site_statement inner_header pin_statement port_statement port_rect_where port_rect_statement kept_block_statement closed_by closed_alone extension_token generating_statement lef_statement front headed with_all
library_read = (refl, refl)

-- a macro by its name, and a name that is no macro's
macros_by_name : (macro_named inverter_library (codes "INV") ≡ Some inverter) × (macro_named inverter_library (codes "IN") ≡ None)
macros_by_name = (refl, refl)

abbrev box : ℕ → ℕ → ℕ → ℕ → Shape
box x1 y1 x2 y2 = record { layer = 0; box = record { x1 = pos x1; y1 = pos y1; x2 = pos x2; y2 = pos y2 } }

abbrev with_origin : Distances → Macro → Macro
with_origin p m = record { name = m.name; class = m.class; size = m.size; origin = Some p; sites = m.sites; pins = m.pins }

abbrev pin_a : Pin
pin_a = pin_on_met1 (codes "A") (microns (pos 1) 1) (microns (pos 1) 0) (microns (pos 3) 1) (microns (pos 12) 1)

-- a macro's size, and a pin's shapes: each number by itself, and then moved by ORIGIN
pin_in_units : (point_or_0 1000 inverter.size ≡ record { x = pos 920; y = pos 2720 })
    × (pin_shapes 1000 inverter_library inverter pin_a ≡ box 100 1000 300 1200 ∷ [])
    × (pin_shapes 2000 inverter_library inverter pin_a ≡ box 200 2000 600 2400 ∷ [])
    × (pin_shapes 1000 inverter_library (with_origin ((microns (pos 1) 1), (microns (pos 0) 0)) inverter) pin_a ≡ box 200 1000 400 1200 ∷ [])
unfolding shapes_in
pin_in_units = (refl, refl, refl, refl)

-- corners in any order are a rectangle, and shapes on a layer that the library lacks are dropped
corners_in_any_order : (shapes_in 1000 inverter_library.layers (record { layer = codes "met1"; rectangles = (((microns (pos 3) 1), (microns (pos 1) 0)), ((microns (pos 1) 1), (microns (pos 12) 1))) ∷ [] } ∷ []) ≡ box 100 1000 300 1200 ∷ [])
    × (shapes_in 1000 inverter_library.layers (record { layer = codes "met9"; rectangles = (((microns (pos 0) 0), (microns (pos 1) 0)), ((microns (pos 1) 0), (microns (pos 1) 0))) ∷ [] } ∷ []) ≡ [])
unfolding shapes_in
corners_in_any_order = (refl, refl)

-- the first CLASS of a macro and its first SIZE and ORIGIN, all its SITEs, and the first macro of a name, in one text or two
first_counts : library_of (codes "MACRO a CLASS PAD x ; CLASS CORE ; SIZE 1 BY 2 ; SIZE 3 BY 4 ; ORIGIN ( 1 2 ) ; ORIGIN 3 4 ; SITE s ; SITE t 0 0 N ; END a MACRO a END a MACRO b END b" ∷ codes "MACRO b CLASS CORE ; END b" ∷ [])
    ≡ Ok (of_macros (
    record { name = codes "a"; class = Some (codes "PAD"); size = Some ((microns (pos 1) 0), (microns (pos 2) 0)); origin = Some ((microns (pos 1) 0), (microns (pos 2) 0)); sites = codes "s" ∷ codes "t" ∷ []; pins = [] }
    ∷ record { name = codes "b"; class = None; size = None; origin = None; sites = []; pins = [] } ∷ []))
unfolding read_text read_on lex last_of repeat split_at number_at is_extent is_distance is_array_count kept_statement distance whole to_end size_statement point two_points corners outermost_statement named_header bare_header layer_statement type_statement width_statement spacing_statement site_statement via_statement via_shape via_corners via_cuts via_metals four_distances rule_statement rule_layer_statement macro_statement class_statement origin_statement macro_site_statement inner_header pin_statement port_statement port_rect_where port_rect_statement kept_block_statement closed_by closed_alone extension_token generating_statement lef_statement front headed with_all
first_counts = refl

-- a layer's first TYPE and WIDTH, and its first SPACING with the number alone, which may be below 0
layer_counts : library_of (codes "LAYER a WIDTH 1 x ; WIDTH 2 ; SPACING 3 RANGE 1 2 ; SPACING -4 ; SPACING 5 ; TYPE OVERLAP ; TYPE CUT ; END a LAYER a END a LAYER b END b" ∷ [])
    ≡ Ok (of_layers (record { name = codes "a"; kind = other; width = Some (microns (pos 1) 0); spacing = Some (microns (neg_ℤ (pos 4)) 0) } ∷ record { name = codes "b"; kind = other; width = None; spacing = None } ∷ []))
unfolding read_text read_on lex last_of repeat split_at number_at is_extent is_distance is_array_count kept_statement distance whole to_end size_statement point two_points corners outermost_statement named_header bare_header layer_statement type_statement width_statement spacing_statement site_statement via_statement via_shape via_corners via_cuts via_metals four_distances rule_statement rule_layer_statement macro_statement class_statement origin_statement macro_site_statement inner_header pin_statement port_statement port_rect_where port_rect_statement kept_block_statement closed_by closed_alone extension_token generating_statement lef_statement front headed with_all
layer_counts = refl

-- a via with a VIARULE is generated, by the first of each number
generated_via : library_of (codes "VIA v VIARULE r ; VIARULE q ; CUTSIZE 0.15 0.15 ; CUTSIZE 1 1 ; LAYERS a b c ; LAYERS d e f ; CUTSPACING 0.17 0.17 ; CUTSPACING 1 1 ; ENCLOSURE 1 2 3 4 ; ENCLOSURE 5 6 7 8 ; ROWCOL 2 3 ; ROWCOL 4 5 ; ORIGIN -1 2 ; ORIGIN 3 4 ; OFFSET 1 2 3 4 ; OFFSET 5 6 7 8 ; POLYGON x ; END v" ∷ [])
    ≡ Ok (of_vias (record {
      name = codes "v";
      body = generated (record {
        rule = codes "r";
        cut_size = Some ((microns (pos 15) 2), (microns (pos 15) 2));
        cut_spacing = Some ((microns (pos 17) 2), (microns (pos 17) 2));
        row_col = Some (pos 2, pos 3);
        layers = Some (codes "a", (codes "b", codes "c"));
        enclosure = Some (((microns (pos 1) 0), (microns (pos 2) 0)), ((microns (pos 3) 0), (microns (pos 4) 0)));
        origin = Some ((microns (neg_ℤ (pos 1)) 0), (microns (pos 2) 0));
        offset = Some (((microns (pos 1) 0), (microns (pos 2) 0)), ((microns (pos 3) 0), (microns (pos 4) 0)));
      });
      unchecked = 1;
    } ∷ []))
unfolding read_text read_on lex last_of repeat split_at number_at is_extent is_distance is_array_count kept_statement distance whole to_end size_statement point two_points corners outermost_statement named_header bare_header layer_statement type_statement width_statement spacing_statement site_statement via_statement via_shape via_corners via_cuts via_metals four_distances rule_statement rule_layer_statement macro_statement class_statement origin_statement macro_site_statement inner_header pin_statement port_statement port_rect_where port_rect_statement kept_block_statement closed_by closed_alone extension_token generating_statement lef_statement front headed with_all
generated_via = refl

-- a LAYER of a via without a RECT is one of its layers; its polygons are counted
listed_via : library_of (codes "VIA v GENERATED TOPOFSTACKONLY LAYER a ; POLYGON 0 0 1 1 1 0 ; LAYER b MASK 1 ; RECT MASK 2 ( 0 0 ) 1 1 ; RECT 1 1 ( 2 2 ) ; END v VIA v END v" ∷ [])
    ≡ Ok (of_vias (record {
      name = codes "v";
      body = listed (record { layer = codes "a"; rectangles = [] }
          ∷ record { layer = codes "b"; rectangles = (((microns (pos 0) 0), (microns (pos 0) 0)), ((microns (pos 1) 0), (microns (pos 1) 0))) ∷ (((microns (pos 1) 0), (microns (pos 1) 0)), ((microns (pos 2) 0), (microns (pos 2) 0))) ∷ [] } ∷ []);
      unchecked = 1;
    } ∷ []))
unfolding read_text read_on lex last_of repeat split_at number_at is_extent is_distance is_array_count kept_statement distance whole to_end size_statement point two_points corners outermost_statement named_header bare_header layer_statement type_statement width_statement spacing_statement site_statement via_statement via_shape via_corners via_cuts via_metals four_distances rule_statement rule_layer_statement macro_statement class_statement origin_statement macro_site_statement inner_header pin_statement port_statement port_rect_where port_rect_statement kept_block_statement closed_by closed_alone extension_token generating_statement lef_statement front headed with_all
listed_via = refl

-- a rule: the first of its layers of each name; a VIA in it is one of the library
rule_read : library_of (codes "NONDEFAULTRULE w HARDSPACING ; LAYER m WIDTH 2 ; WIDTH 3 ; END m LAYER m WIDTH 4 ; END m LAYER n END n SPACING SAMENET m m 1 ; END SPACING VIA nv LAYER m ; RECT 0 0 1 1 ; END nv END w" ∷ [])
    ≡ Ok (record {
      layers = [];
      sites = [];
      macros = [];
      vias = record { name = codes "nv"; body = listed (record { layer = codes "m"; rectangles = (((microns (pos 0) 0), (microns (pos 0) 0)), ((microns (pos 1) 0), (microns (pos 1) 0))) ∷ [] } ∷ []); unchecked = 0 } ∷ [];
      rules = record { name = codes "w"; layers = record { name = codes "m"; width = Some (microns (pos 2) 0) } ∷ record { name = codes "n"; width = None } ∷ [] } ∷ [];
    })
unfolding read_text read_on lex last_of repeat split_at number_at is_extent is_distance is_array_count kept_statement distance whole to_end size_statement point two_points corners outermost_statement named_header bare_header layer_statement type_statement width_statement spacing_statement site_statement via_statement via_shape via_corners via_cuts via_metals four_distances rule_statement rule_layer_statement macro_statement class_statement origin_statement macro_site_statement inner_header pin_statement port_statement port_rect_where port_rect_statement kept_block_statement closed_by closed_alone extension_token generating_statement lef_statement front headed with_all
rule_read = refl

-- the first pin of a name in a macro; shapes of all its ports, and the parts whose shape isn't checked
pins_read : library_of (codes "MACRO m PIN a DIRECTION INPUT ; PORT CLASS CORE ; LAYER x ; RECT 0 0 1 1 ; POLYGON x ; RECT ITERATE 1 2 3 ; LAYER y SPACING 1 ; END PORT LAYER x ; PATH 1 ; VIA 0 0 v ; RECT MASK 1 ITERATE x ; RECT ( 1 1 ) ( 2 2 ) ; END END a PIN a PORT POLYGON y ; END END a OBS LAYER x ; RECT z ; END DENSITY LAYER x ; END END m" ∷ [])
    ≡ Ok (of_macros (record {
      name = codes "m";
      class = None;
      size = None;
      origin = None;
      sites = [];
      pins =
          record {
            name = codes "a";
            shapes = record { layer = codes "x"; rectangles = (((microns (pos 0) 0), (microns (pos 0) 0)), ((microns (pos 1) 0), (microns (pos 1) 0))) ∷ [] }
                ∷ record { layer = codes "y"; rectangles = [] }
                ∷ record { layer = codes "x"; rectangles = (((microns (pos 1) 0), (microns (pos 1) 0)), ((microns (pos 2) 0), (microns (pos 2) 0))) ∷ [] } ∷ [];
            unchecked = 5;
          } ∷ [];
    } ∷ []))
unfolding read_text read_on lex last_of repeat split_at number_at is_extent is_distance is_array_count kept_statement distance whole to_end size_statement point two_points corners outermost_statement named_header bare_header layer_statement type_statement width_statement spacing_statement site_statement via_statement via_shape via_corners via_cuts via_metals four_distances rule_statement rule_layer_statement macro_statement class_statement origin_statement macro_site_statement inner_header pin_statement port_statement port_rect_where port_rect_statement kept_block_statement closed_by closed_alone extension_token generating_statement lef_statement front headed with_all
pins_read = refl

-- the fault of the second text, before that of the third
second_text : library_of (macro_text ∷ codes "MACRO m LAYER" ∷ codes ";" ∷ []) ≡ Err (record { file = 2; fault = fault_at Unfinished 8 })
unfolding read_text read_on fault_on lex last_of repeat split_at number_at is_extent is_distance is_array_count kept_statement distance whole to_end size_statement point two_points corners outermost_statement named_header bare_header layer_statement type_statement width_statement spacing_statement site_statement via_statement via_shape via_corners via_cuts via_metals four_distances rule_statement rule_layer_statement macro_statement class_statement origin_statement macro_site_statement inner_header pin_statement port_statement port_rect_where port_rect_statement kept_block_statement closed_by closed_alone extension_token generating_statement lef_statement front headed with_all
second_text = refl

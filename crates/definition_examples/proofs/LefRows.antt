-- Worked rows of reading LEF, by computing.
use Rattle.std.proofs.Common.{◌≡◌, List, ℕ, [], ◌∷◌, ◌++◌, None, Ok, Err, refl, codes, true}
use Rattle.design_model.specs.declared.fault.FaultCode.{FaultCode}
use Rattle.design_model.specs.declared.fault.FaultCode.TheVariants.{RefusedByte, NoForm, Unfinished, Number}
use Rattle.design_model.specs.Units.{distance, whole}
use Rattle.form_meanings.specs.Meaning.{repeat}
use Rattle.form_meanings.specs.Words.{number_at, split_at}
use Rattle.statement_model.specs.Tokens.{lex}
use Rattle.statement_model.specs.Boundaries.{alone, with_next, up_to, last_of}
use Rattle.statement_model.specs.Reading.{fault_at, read_on, read_text}
use Rattle.lef_grammar.specs.Extents.{is_extent, is_distance, is_array_count, enclosed, bare, masked, unmasked, kept_statement, to_end, size_statement, point, two_points, corners}
use Rattle.lef_grammar.specs.Outermost.{end_library, opens_layer, opens_site, opens_macro, opens_rule, opens_via, opens_generating_rule, opens_units, opens_spacing, opens_properties, opens_extension, kept_outside, outermost_statement, named_header, bare_header}
use Rattle.lef_grammar.specs.HeaderWords.{fault_behind}
use Rattle.lef_grammar.specs.LayerBlock.{end_layer, layer_type, layer_width, layer_spacing, kept_in_layer, layer_statement, type_statement, width_statement, spacing_statement}
use Rattle.lef_grammar.specs.SiteBlock.{end_site, site_size, kept_in_site, site_statement}
use Rattle.lef_grammar.specs.ViaBlock.{in_header, end_via, via_word, via_layer, via_rect, kept_in_via, via_statement, via_shape, via_corners, via_cuts, via_metals, four_distances}
use Rattle.lef_grammar.specs.RuleBlock.{end_rule, opens_rule_layer, opens_rule_via, opens_rule_spacing, rule_statement, end_rule_layer, rule_width, rule_layer_statement}
use Rattle.lef_grammar.specs.MacroBlock.{end_macro, class, size, opens_pin, opens_obstruction, opens_density, kept_in_macro, class_statement, origin_statement, macro_site_statement, inner_header, macro_statement}
use Rattle.lef_grammar.specs.PinBlock.{end_pin, opens_port, kept_in_pin, pin_statement}
use Rattle.lef_grammar.specs.PortBlock.{end_port, port_layer, port_array, masked_port_array, port_rect, port_shape, port_rect_statement, port_rect_where, port_statement}
use Rattle.lef_grammar.specs.KeptBlocks.{units, extension, obstruction, density, end_kept, lone_word, kept_in_kept, closed_by, closed_alone, extension_token, generating_statement, kept_block_statement}
use Rattle.lef_grammar.specs.LefRecords.{LefRecord, outermost, via, rule, macro, pin, port, kept, outside, in_layer, in_site, in_via, in_rule, in_rule_layer, in_macro, in_pin, in_port, in_kept, lef_ending, lef_statement, fault_on, read_lef}

-- the text has this fault
abbrev IsRefused : List ℕ → FaultCode → ℕ → Type 0
IsRefused text code pos = read_lef text ≡ Err (fault_at code pos)

-- the text reads as these records
abbrev Says : List ℕ → List LefRecord → Type 0
Says text recs = read_lef text ≡ Ok recs

-- a text without a statement, and one with a macro
lef_read : Says [] []
    × Says (codes "MACRO INV CLASS CORE ; SIZE 0.92 BY 2.72 ; END INV")
    (outside (opens_macro (codes "INV")) ∷ in_macro (class (codes "CORE") []) ∷ in_macro (size (codes "0.92") (codes "2.72")) ∷ in_macro end_macro ∷ [])
unfolding read_text read_on fault_on lex last_of repeat split_at number_at is_extent is_distance is_array_count kept_statement distance whole to_end size_statement point two_points corners outermost_statement named_header bare_header layer_statement type_statement width_statement spacing_statement site_statement via_statement via_shape via_corners via_cuts via_metals four_distances rule_statement rule_layer_statement macro_statement class_statement origin_statement macro_site_statement inner_header pin_statement port_statement port_rect_where port_rect_statement kept_block_statement closed_by closed_alone extension_token generating_statement lef_statement
lef_read = (refl, refl)

-- a layer, and a site whose CLASS is kept
layer_and_site : Says (codes "LAYER m TYPE ROUTING ; WIDTH 0.14 x ; SPACING -0.1 RANGE 1 2 ; PITCH 1 ; END m SITE s CLASS CORE ; SIZE 1 BY 2 ; END s")
    (outside (opens_layer (codes "m"))
    ∷ in_layer (layer_type (codes "ROUTING"))
    ∷ in_layer (layer_width (codes "0.14") (codes "x" ∷ []))
    ∷ in_layer (layer_spacing (codes "-0.1") (codes "RANGE" ∷ codes "1" ∷ codes "2" ∷ []))
    ∷ in_layer (kept_in_layer (codes "PITCH") (codes "1" ∷ codes ";" ∷ []))
    ∷ in_layer end_layer
    ∷ outside (opens_site (codes "s"))
    ∷ in_site (kept_in_site (codes "CLASS") (codes "CORE" ∷ codes ";" ∷ []))
    ∷ in_site (site_size (codes "1") (codes "2"))
    ∷ in_site end_site
    ∷ [])
unfolding read_text read_on fault_on lex last_of repeat split_at number_at is_extent is_distance is_array_count kept_statement distance whole to_end size_statement point two_points corners outermost_statement named_header bare_header layer_statement type_statement width_statement spacing_statement site_statement via_statement via_shape via_corners via_cuts via_metals four_distances rule_statement rule_layer_statement macro_statement class_statement origin_statement macro_site_statement inner_header pin_statement port_statement port_rect_where port_rect_statement kept_block_statement closed_by closed_alone extension_token generating_statement lef_statement
layer_and_site = refl

-- words of the header of a VIA, in any order and number; later such a word begins a statement
via_header : Says (codes "VIA v DEFAULT TOPOFSTACKONLY DEFAULT LAYER m ; DEFAULT ; RECT 0 0 1 1 ; END v")
    (outside (opens_via (codes "v"))
    ∷ in_via (via_word (codes "DEFAULT"))
    ∷ in_via (via_word (codes "TOPOFSTACKONLY"))
    ∷ in_via (via_word (codes "DEFAULT"))
    ∷ in_via (via_layer (codes "m") [])
    ∷ in_via (kept_in_via (codes "DEFAULT") (codes ";" ∷ []))
    ∷ in_via (via_rect (unmasked (bare (codes "0") (codes "0")) (bare (codes "1") (codes "1"))))
    ∷ in_via end_via
    ∷ [])
unfolding read_text read_on fault_on lex last_of repeat split_at number_at is_extent is_distance is_array_count kept_statement distance whole to_end size_statement point two_points corners outermost_statement named_header bare_header layer_statement type_statement width_statement spacing_statement site_statement via_statement via_shape via_corners via_cuts via_metals four_distances rule_statement rule_layer_statement macro_statement class_statement origin_statement macro_site_statement inner_header pin_statement port_statement port_rect_where port_rect_statement kept_block_statement closed_by closed_alone extension_token generating_statement lef_statement
via_header = refl

-- GENERATE and then DEFAULT in the header of a VIARULE, and no other; its VIA is a statement
generating_header : Says (codes "VIARULE r GENERATE DEFAULT LAYER m ; END r VIARULE s DEFAULT GENERATE ; VIA v ; END s")
    (outside (opens_generating_rule (codes "r"))
    ∷ in_kept (lone_word (codes "GENERATE"))
    ∷ in_kept (lone_word (codes "DEFAULT"))
    ∷ in_kept (kept_in_kept (codes "LAYER") (codes "m" ∷ codes ";" ∷ []))
    ∷ in_kept end_kept
    ∷ outside (opens_generating_rule (codes "s"))
    ∷ in_kept (lone_word (codes "DEFAULT"))
    ∷ in_kept (kept_in_kept (codes "GENERATE") (codes ";" ∷ []))
    ∷ in_kept (kept_in_kept (codes "VIA") (codes "v" ∷ codes ";" ∷ []))
    ∷ in_kept end_kept
    ∷ [])
unfolding read_text read_on fault_on lex last_of repeat split_at number_at is_extent is_distance is_array_count kept_statement distance whole to_end size_statement point two_points corners outermost_statement named_header bare_header layer_statement type_statement width_statement spacing_statement site_statement via_statement via_shape via_corners via_cuts via_metals four_distances rule_statement rule_layer_statement macro_statement class_statement origin_statement macro_site_statement inner_header pin_statement port_statement port_rect_where port_rect_statement kept_block_statement closed_by closed_alone extension_token generating_statement lef_statement
generating_header = refl

-- a header without a name, and one that a ; follows
via_without_name : IsRefused (codes "VIA ; DEFAULT") NoForm 0 × IsRefused (codes "VIA v DEFAULT ;") NoForm 14 × IsRefused (codes "LAYER met1 ;\nEND met1") NoForm 11
unfolding read_text read_on fault_on fault_behind lex last_of repeat split_at number_at is_extent is_distance is_array_count kept_statement distance whole to_end size_statement point two_points corners outermost_statement named_header bare_header layer_statement type_statement width_statement spacing_statement site_statement via_statement via_shape via_corners via_cuts via_metals four_distances rule_statement rule_layer_statement macro_statement class_statement origin_statement macro_site_statement inner_header pin_statement port_statement port_rect_where port_rect_statement kept_block_statement closed_by closed_alone extension_token generating_statement lef_statement
via_without_name = (refl, refl, refl)

-- a fault of the tokens where the header of a VIA or a VIARULE goes on, and one where it has ended or is none
abbrev with_refused_byte : List ℕ → List ℕ
with_refused_byte text = text ++ 127 ∷ []

fault_behind_header : IsRefused (with_refused_byte (codes "VIA ; # ")) RefusedByte 8
    × IsRefused (with_refused_byte (codes "VIARULE ( GENERATE DEFAULT ")) RefusedByte 27
    × IsRefused (with_refused_byte (codes "NONDEFAULTRULE w VIA ; DEFAULT DEFAULT ")) RefusedByte 39
    × IsRefused (with_refused_byte (codes "VIARULE ( GENERATE GENERATE ")) NoForm 0
    × IsRefused (with_refused_byte (codes "VIA ; LAYER ")) NoForm 0
    × IsRefused (with_refused_byte (codes "VIA v VIARULE ; ")) NoForm 6
unfolding read_text read_on fault_on fault_behind lex last_of repeat split_at number_at is_extent is_distance is_array_count kept_statement distance whole to_end size_statement point two_points corners outermost_statement named_header bare_header layer_statement type_statement width_statement spacing_statement site_statement via_statement via_shape via_corners via_cuts via_metals four_distances rule_statement rule_layer_statement macro_statement class_statement origin_statement macro_site_statement inner_header pin_statement port_statement port_rect_where port_rect_statement kept_block_statement closed_by closed_alone extension_token generating_statement lef_statement
fault_behind_header = (refl, refl, refl, refl, refl, refl)

-- blocks within a rule
rule_blocks : Says (codes "NONDEFAULTRULE w LAYER m WIDTH 2 ; END m VIA v DEFAULT END v SPACING x ; END SPACING END w")
    (outside (opens_rule (codes "w"))
    ∷ in_rule (opens_rule_layer (codes "m"))
    ∷ in_rule_layer (rule_width (codes "2"))
    ∷ in_rule_layer end_rule_layer
    ∷ in_rule (opens_rule_via (codes "v"))
    ∷ in_via (via_word (codes "DEFAULT"))
    ∷ in_via end_via
    ∷ in_rule opens_rule_spacing
    ∷ in_kept (kept_in_kept (codes "x") (codes ";" ∷ []))
    ∷ in_kept end_kept
    ∷ in_rule end_rule
    ∷ [])
unfolding read_text read_on fault_on lex last_of repeat split_at number_at is_extent is_distance is_array_count kept_statement distance whole to_end size_statement point two_points corners outermost_statement named_header bare_header layer_statement type_statement width_statement spacing_statement site_statement via_statement via_shape via_corners via_cuts via_metals four_distances rule_statement rule_layer_statement macro_statement class_statement origin_statement macro_site_statement inner_header pin_statement port_statement port_rect_where port_rect_statement kept_block_statement closed_by closed_alone extension_token generating_statement lef_statement
rule_blocks = refl

-- OBS, DENSITY and PORT end by END alone, and what follows it begins a statement
bare_ends : Says (codes "MACRO m OBS RECT x ; END x ; DENSITY END PIN p PORT END USE a ; END p END m")
    (outside (opens_macro (codes "m"))
    ∷ in_macro opens_obstruction
    ∷ in_kept (kept_in_kept (codes "RECT") (codes "x" ∷ codes ";" ∷ []))
    ∷ in_kept end_kept
    ∷ in_macro (kept_in_macro (codes "x") (codes ";" ∷ []))
    ∷ in_macro opens_density
    ∷ in_kept end_kept
    ∷ in_macro (opens_pin (codes "p"))
    ∷ in_pin opens_port
    ∷ in_port end_port
    ∷ in_pin (kept_in_pin (codes "USE") (codes "a" ∷ codes ";" ∷ []))
    ∷ in_pin end_pin
    ∷ in_macro end_macro
    ∷ [])
unfolding read_text read_on fault_on lex last_of repeat split_at number_at is_extent is_distance is_array_count kept_statement distance whole to_end size_statement point two_points corners outermost_statement named_header bare_header layer_statement type_statement width_statement spacing_statement site_statement via_statement via_shape via_corners via_cuts via_metals four_distances rule_statement rule_layer_statement macro_statement class_statement origin_statement macro_site_statement inner_header pin_statement port_statement port_rect_where port_rect_statement kept_block_statement closed_by closed_alone extension_token generating_statement lef_statement
bare_ends = refl

-- blocks that are named by their header, and END LIBRARY, which may come anywhere outside of blocks and again
kept_blocks : Says (codes "UNITS DATABASE MICRONS 1000 ; END UNITS END LIBRARY SPACING SAMENET a b 1 ; END SPACING PROPERTYDEFINITIONS MACRO p STRING ; END PROPERTYDEFINITIONS END LIBRARY x ;")
    (outside opens_units
    ∷ in_kept (kept_in_kept (codes "DATABASE") (codes "MICRONS" ∷ codes "1000" ∷ codes ";" ∷ []))
    ∷ in_kept end_kept
    ∷ outside end_library
    ∷ outside opens_spacing
    ∷ in_kept (kept_in_kept (codes "SAMENET") (codes "a" ∷ codes "b" ∷ codes "1" ∷ codes ";" ∷ []))
    ∷ in_kept end_kept
    ∷ outside opens_properties
    ∷ in_kept (kept_in_kept (codes "MACRO") (codes "p" ∷ codes "STRING" ∷ codes ";" ∷ []))
    ∷ in_kept end_kept
    ∷ outside end_library
    ∷ outside (kept_outside (codes "x") (codes ";" ∷ []))
    ∷ [])
unfolding read_text read_on fault_on lex last_of repeat split_at number_at is_extent is_distance is_array_count kept_statement distance whole to_end size_statement point two_points corners outermost_statement named_header bare_header layer_statement type_statement width_statement spacing_statement site_statement via_statement via_shape via_corners via_cuts via_metals four_distances rule_statement rule_layer_statement macro_statement class_statement origin_statement macro_site_statement inner_header pin_statement port_statement port_rect_where port_rect_statement kept_block_statement closed_by closed_alone extension_token generating_statement lef_statement
kept_blocks = refl

-- what stands in an extension isn't looked into, and one without ENDEXT is a block that is open
extension_read : Says (codes "BEGINEXT \"tag\" END x ENDEXT VERSION 5.8 ;")
    (outside opens_extension
    ∷ in_kept (lone_word (codes "\"tag\""))
    ∷ in_kept (lone_word (codes "END"))
    ∷ in_kept (lone_word (codes "x"))
    ∷ in_kept end_kept
    ∷ outside (kept_outside (codes "VERSION") (codes "5.8" ∷ codes ";" ∷ []))
    ∷ [])
    × IsRefused (codes "BEGINEXT x ; ") Unfinished 13
unfolding read_text read_on fault_on lex last_of repeat split_at number_at is_extent is_distance is_array_count kept_statement distance whole to_end size_statement point two_points corners outermost_statement named_header bare_header layer_statement type_statement width_statement spacing_statement site_statement via_statement via_shape via_corners via_cuts via_metals four_distances rule_statement rule_layer_statement macro_statement class_statement origin_statement macro_site_statement inner_header pin_statement port_statement port_rect_where port_rect_statement kept_block_statement closed_by closed_alone extension_token generating_statement lef_statement
extension_read = (refl, refl)

-- RECT of a port: MASK and ITERATE as words of the statement
port_rects : Says (codes "MACRO m PIN p PORT LAYER a 1 ; RECT ITERATE 1 2 3 ; RECT MASK 1 ITERATE 2 3 ; RECT MASK 2 0 0 ( 1 1 ) ; END END p END m")
    (outside (opens_macro (codes "m"))
    ∷ in_macro (opens_pin (codes "p"))
    ∷ in_pin opens_port
    ∷ in_port (port_layer (codes "a") (codes "1" ∷ []))
    ∷ in_port (port_array (codes "1" ∷ codes "2" ∷ codes "3" ∷ []))
    ∷ in_port (masked_port_array (codes "1") (codes "2" ∷ codes "3" ∷ []))
    ∷ in_port (port_rect (masked (codes "2") (bare (codes "0") (codes "0")) (enclosed (codes "1") (codes "1"))))
    ∷ in_port end_port
    ∷ in_pin end_pin
    ∷ in_macro end_macro
    ∷ [])
unfolding read_text read_on fault_on lex last_of repeat split_at number_at is_extent is_distance is_array_count kept_statement distance whole to_end size_statement point two_points corners outermost_statement named_header bare_header layer_statement type_statement width_statement spacing_statement site_statement via_statement via_shape via_corners via_cuts via_metals four_distances rule_statement rule_layer_statement macro_statement class_statement origin_statement macro_site_statement inner_header pin_statement port_statement port_rect_where port_rect_statement kept_block_statement closed_by closed_alone extension_token generating_statement lef_statement
port_rects = refl

-- MASK in the place of a number, of four and of six words, and ITERATE in a VIA
mask_as_number : IsRefused (codes "MACRO m PIN p PORT LAYER a ; RECT MASK 1 0 0 ;") Number 34
    × IsRefused (codes "MACRO m PIN p PORT LAYER a ; RECT MASK 1 ( 0 0 ) ;") Number 34
    × IsRefused (codes "VIA v LAYER a ; RECT ITERATE 1 2 3 ;") Number 21
unfolding read_text read_on fault_on lex last_of repeat split_at number_at is_extent is_distance is_array_count kept_statement distance whole to_end size_statement point two_points corners outermost_statement named_header bare_header layer_statement type_statement width_statement spacing_statement site_statement via_statement via_shape via_corners via_cuts via_metals four_distances rule_statement rule_layer_statement macro_statement class_statement origin_statement macro_site_statement inner_header pin_statement port_statement port_rect_where port_rect_statement kept_block_statement closed_by closed_alone extension_token generating_statement lef_statement
mask_as_number = (refl, refl, refl)

-- RECT before any LAYER of its VIA or PORT, whatever it says; POLYGON and PATH may stand there
rect_first : IsRefused (codes "VIA v RECT 0 0 1 1 ; END v") NoForm 6
    × IsRefused (codes "NONDEFAULTRULE w VIA nv RECT 0 0 1 1 ; END nv END w") NoForm 24
    × IsRefused (codes "MACRO m PIN p PORT RECT ITERATE x ; END END p END m") NoForm 19
    × IsRefused (codes "MACRO m PIN p PORT LAYER a ; END PORT RECT 0 0 1 1 ; END END p END m") NoForm 38
    × Says (codes "MACRO m PIN p PORT POLYGON x ; PATH y ; END END p END m")
    (outside (opens_macro (codes "m"))
    ∷ in_macro (opens_pin (codes "p"))
    ∷ in_pin opens_port
    ∷ in_port (port_shape (codes "POLYGON") (codes "x" ∷ []))
    ∷ in_port (port_shape (codes "PATH") (codes "y" ∷ []))
    ∷ in_port end_port
    ∷ in_pin end_pin
    ∷ in_macro end_macro
    ∷ [])
unfolding read_text read_on fault_on lex last_of repeat split_at number_at is_extent is_distance is_array_count kept_statement distance whole to_end size_statement point two_points corners outermost_statement named_header bare_header layer_statement type_statement width_statement spacing_statement site_statement via_statement via_shape via_corners via_cuts via_metals four_distances rule_statement rule_layer_statement macro_statement class_statement origin_statement macro_site_statement inner_header pin_statement port_statement port_rect_where port_rect_statement kept_block_statement closed_by closed_alone extension_token generating_statement lef_statement
rect_first = (refl, refl, refl, refl, refl)

-- numbers out of their range
numbers_refused : IsRefused (codes "MACRO m SIZE 1 BY -1 ; END m") Number 18
    × IsRefused (codes "LAYER m WIDTH -0.1 ;") Number 14
    × IsRefused (codes "NONDEFAULTRULE w LAYER m WIDTH -1 ;") Number 31
    × IsRefused (codes "SITE s SIZE -1 BY 1 ;") Number 12
    × IsRefused (codes "VIA v CUTSIZE 1 -1 ;") Number 16
    × IsRefused (codes "VIA v CUTSPACING -1 1 ;") Number 17
    × IsRefused (codes "VIA v ROWCOL 0 1 ;") Number 13
    × IsRefused (codes "VIA v ROWCOL 1 1000001 ;") Number 15
    × IsRefused (codes "VIA v ENCLOSURE -1 0 0 x ;") Number 23
unfolding read_text read_on fault_on lex last_of repeat split_at number_at is_extent is_distance is_array_count kept_statement distance whole to_end size_statement point two_points corners outermost_statement named_header bare_header layer_statement type_statement width_statement spacing_statement site_statement via_statement via_shape via_corners via_cuts via_metals four_distances rule_statement rule_layer_statement macro_statement class_statement origin_statement macro_site_statement inner_header pin_statement port_statement port_rect_where port_rect_statement kept_block_statement closed_by closed_alone extension_token generating_statement lef_statement
numbers_refused = (refl, refl, refl, refl, refl, refl, refl, refl, refl)

-- a statement that is listed for its block and has no form, and one that is listed for another block
forms_refused : IsRefused (codes "LAYER m TYPE ;") NoForm 8
    × IsRefused (codes "VIA v LAYERS a b ;") NoForm 6
    × IsRefused (codes "MACRO m SIZE 1 BY 2 3 ;") NoForm 8
    × Says (codes "LAYER m SIZE x ; ORIGIN ; END m")
    (outside (opens_layer (codes "m")) ∷ in_layer (kept_in_layer (codes "SIZE") (codes "x" ∷ codes ";" ∷ [])) ∷ in_layer (kept_in_layer (codes "ORIGIN") (codes ";" ∷ [])) ∷ in_layer end_layer ∷ [])
unfolding read_text read_on fault_on lex last_of repeat split_at number_at is_extent is_distance is_array_count kept_statement distance whole to_end size_statement point two_points corners outermost_statement named_header bare_header layer_statement type_statement width_statement spacing_statement site_statement via_statement via_shape via_corners via_cuts via_metals four_distances rule_statement rule_layer_statement macro_statement class_statement origin_statement macro_site_statement inner_header pin_statement port_statement port_rect_where port_rect_statement kept_block_statement closed_by closed_alone extension_token generating_statement lef_statement
forms_refused = (refl, refl, refl, refl)

-- a ; and a string begin no statement
no_first_word : IsRefused (codes ";") NoForm 0 × IsRefused (codes "\"x\" ;") NoForm 0 × IsRefused (codes "MACRO m OBS ;") NoForm 12
unfolding read_text read_on fault_on lex last_of repeat split_at number_at is_extent is_distance is_array_count kept_statement distance whole to_end size_statement point two_points corners outermost_statement named_header bare_header layer_statement type_statement width_statement spacing_statement site_statement via_statement via_shape via_corners via_cuts via_metals four_distances rule_statement rule_layer_statement macro_statement class_statement origin_statement macro_site_statement inner_header pin_statement port_statement port_rect_where port_rect_statement kept_block_statement closed_by closed_alone extension_token generating_statement lef_statement
no_first_word = (refl, refl, refl)

-- blocks that are not closed
lef_unfinished : IsRefused (codes "LAYER m\n") Unfinished 8 × IsRefused (codes "MACRO m PIN p PORT END") Unfinished 22 × IsRefused (codes "VIA v DEFAULT") Unfinished 13
unfolding read_text read_on fault_on lex last_of repeat split_at number_at is_extent is_distance is_array_count kept_statement distance whole to_end size_statement point two_points corners outermost_statement named_header bare_header layer_statement type_statement width_statement spacing_statement site_statement via_statement via_shape via_corners via_cuts via_metals four_distances rule_statement rule_layer_statement macro_statement class_statement origin_statement macro_site_statement inner_header pin_statement port_statement port_rect_where port_rect_statement kept_block_statement closed_by closed_alone extension_token generating_statement lef_statement
lef_unfinished = (refl, refl, refl)

-- the END of a block with another name
another_end : IsRefused (codes "MACRO m END n") NoForm 8 × IsRefused (codes "SITE m END LIBRARY") NoForm 7 × IsRefused (codes "UNITS END SPACING") NoForm 6 × IsRefused (codes "MACRO m PIN p END m") NoForm 14
unfolding read_text read_on fault_on lex last_of repeat split_at number_at is_extent is_distance is_array_count kept_statement distance whole to_end size_statement point two_points corners outermost_statement named_header bare_header layer_statement type_statement width_statement spacing_statement site_statement via_statement via_shape via_corners via_cuts via_metals four_distances rule_statement rule_layer_statement macro_statement class_statement origin_statement macro_site_statement inner_header pin_statement port_statement port_rect_where port_rect_statement kept_block_statement closed_by closed_alone extension_token generating_statement lef_statement
another_end = (refl, refl, refl, refl)

-- header words count by their block
headers_by_block : Says (codes "PIN a ; MACRO m PORT x ; LAYER c ; PIN p PIN q ; END p END m")
    (outside (kept_outside (codes "PIN") (codes "a" ∷ codes ";" ∷ []))
    ∷ outside (opens_macro (codes "m"))
    ∷ in_macro (kept_in_macro (codes "PORT") (codes "x" ∷ codes ";" ∷ []))
    ∷ in_macro (kept_in_macro (codes "LAYER") (codes "c" ∷ codes ";" ∷ []))
    ∷ in_macro (opens_pin (codes "p"))
    ∷ in_pin (kept_in_pin (codes "PIN") (codes "q" ∷ codes ";" ∷ []))
    ∷ in_pin end_pin
    ∷ in_macro end_macro
    ∷ [])
unfolding read_text read_on fault_on lex last_of repeat split_at number_at is_extent is_distance is_array_count kept_statement distance whole to_end size_statement point two_points corners outermost_statement named_header bare_header layer_statement type_statement width_statement spacing_statement site_statement via_statement via_shape via_corners via_cuts via_metals four_distances rule_statement rule_layer_statement macro_statement class_statement origin_statement macro_site_statement inner_header pin_statement port_statement port_rect_where port_rect_statement kept_block_statement closed_by closed_alone extension_token generating_statement lef_statement
headers_by_block = refl

-- LAYER takes its name outside of all blocks and in a rule, and runs to the ; elsewhere
ending_of_layer : (lef_ending outermost (codes "LAYER") ≡ with_next) × (lef_ending (rule (codes "w")) (codes "LAYER") ≡ with_next)
    × (lef_ending (via None (codes "v") in_header) (codes "LAYER") ≡ up_to (codes ";")) × (lef_ending (macro (codes "m")) (codes "LAYER") ≡ up_to (codes ";"))
ending_of_layer = (refl, refl, refl, refl)

-- END takes one more token, and stands alone in PORT, OBS and DENSITY and in an extension
ending_of_end : (lef_ending outermost (codes "END") ≡ with_next) × (lef_ending (pin (codes "m") (codes "p")) (codes "END") ≡ with_next) × (lef_ending (kept units) (codes "END") ≡ with_next)
    × (lef_ending (port (codes "m") (codes "p") true) (codes "END") ≡ alone) × (lef_ending (kept (obstruction (codes "m"))) (codes "END") ≡ alone)
    × (lef_ending (kept (density (codes "m"))) (codes "END") ≡ alone) × (lef_ending (kept extension) (codes "END") ≡ alone)
ending_of_end = (refl, refl, refl, refl, refl, refl, refl)

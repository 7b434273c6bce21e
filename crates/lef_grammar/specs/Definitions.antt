-- What a LEF text defines, in order: its layers, sites, vias, rules and macros. Distances are in microns.
use Rattle.std.specs.Prelude.{ℕ, ℤ, pos, List, [], length, map, filter, Option, Some, None, Result, Ok, Err, codes, if◌then◌else◌}
use Rattle.std.specs.List.{filter_map}
use Rattle.std.specs.Option.{option_map}
use Rattle.design_model.specs.declared.number.NumFault.{NumFault}
use Rattle.design_model.specs.Units.{Distance, distance, whole}
use Rattle.form_meanings.specs.Words.{is_word}
use Rattle.lef_grammar.specs.Extents.{Point, Corners, masked, unmasked, coordinates}
use Rattle.lef_grammar.specs.Outermost.{opens_layer, opens_site, opens_macro, opens_rule, opens_via}
use Rattle.lef_grammar.specs.LayerBlock.{LayerRecord, type_of, width_of, spacing_of}
use Rattle.lef_grammar.specs.SiteBlock.{SiteRecord, site_size_of}
use Rattle.lef_grammar.specs.ViaBlock.{ViaRecord, via_layer_of, via_rect_of, is_via_polygon, rule_of, cut_size_of, cut_spacing_of, row_col_of, via_layers_of, enclosure_of, via_origin_of, via_offset_of}
use Rattle.lef_grammar.specs.RuleBlock.{opens_rule_layer, opens_rule_via, RuleLayerRecord, rule_width_of}
use Rattle.lef_grammar.specs.MacroBlock.{MacroRecord, opens_pin, class_of, size_of, origin_of, site_of}
use Rattle.lef_grammar.specs.PortBlock.{PortRecord, port_layer_of, port_rect_of, is_unchecked}
use Rattle.lef_grammar.specs.LefRecords.{LefRecord, outside, in_layer, in_site, in_via, in_rule, in_rule_layer, in_macro, in_pin, in_port}
use Rattle.form_meanings.specs.Firsts.{headed, first_of, with_all}

-- a number as it is read. The grammar has none here that doesn't read, so that 0 stands for no word of a text.
abbrev pub distance_or_0 : Result Distance NumFault → Distance
distance_or_0 (Ok d) = d
distance_or_0 (Err e) = record { value = pos 0; places = 0 }

abbrev pub distance_read : List ℕ → Distance
distance_read w = distance_or_0 (distance w)

abbrev pub whole_or_0 : Result ℤ NumFault → ℤ
whole_or_0 (Ok n) = n
whole_or_0 (Err e) = pos 0

abbrev pub whole_read : List ℕ → ℤ
whole_read w = whole_or_0 (whole w)

-- two distances: x and y, or width and height
abbrev pub Distances : Type 0
Distances = Distance × Distance

abbrev pub both_read : List ℕ × List ℕ → Distances
both_read x = (distance_read x.0, distance_read x.1)

abbrev pub point_read : Point → Distances
point_read p = both_read (coordinates p)

-- two corners
abbrev pub corners_read : Corners → Distances × Distances
corners_read (masked mask a b) = (point_read a, point_read b)
corners_read (unmasked a b) = (point_read a, point_read b)

-- of a bottom metal and of a top one
abbrev pub metals_read : List ℕ × (List ℕ × (List ℕ × List ℕ)) → Distances × Distances
metals_read x = ((distance_read x.0, distance_read x.1.0), (distance_read x.1.1.0, distance_read x.1.1.1))

pub data LayerKind : Type 0 where
  routing : LayerKind
  cut : LayerKind
  other : LayerKind

abbrev pub kind_of : Option (List ℕ) → LayerKind
kind_of None = other
kind_of (Some w) = if is_word (codes "ROUTING") w then routing else (if is_word (codes "CUT") w then cut else other)

-- a layer: its kind by its TYPE, its WIDTH, and the SPACING that has its number alone
pub record Layer : Type 0 where
  pub name : List ℕ
  pub kind : LayerKind
  pub width : Option Distance
  pub spacing : Option Distance

abbrev pub opened_layer : LefRecord → Option (List ℕ)
opened_layer (outside (opens_layer name)) = Some name
opened_layer _ = None

abbrev pub layer_record : LefRecord → Option LayerRecord
layer_record (in_layer r) = Some r
layer_record _ = None

abbrev pub layer_with : List ℕ × List LayerRecord → Layer
layer_with x = record { name = x.0; kind = kind_of (first_of type_of x.1); width = option_map distance_read (first_of width_of x.1); spacing = option_map distance_read (first_of spacing_of x.1) }

abbrev pub layers_of : List LefRecord → List Layer
layers_of recs = map layer_with (headed opened_layer layer_record recs)

-- a site: its width and height
pub record Site : Type 0 where
  pub name : List ℕ
  pub size : Option Distances

abbrev pub opened_site : LefRecord → Option (List ℕ)
opened_site (outside (opens_site name)) = Some name
opened_site _ = None

abbrev pub site_record : LefRecord → Option SiteRecord
site_record (in_site r) = Some r
site_record _ = None

abbrev pub site_with : List ℕ × List SiteRecord → Site
site_with x = record { name = x.0; size = option_map both_read (first_of site_size_of x.1) }

abbrev pub sites_of : List LefRecord → List Site
sites_of recs = map site_with (headed opened_site site_record recs)

-- a LAYER of a via or a pin, and the rectangles of it up to the next
pub record LayerShapes : Type 0 where
  pub layer : List ℕ
  pub rectangles : List (Distances × Distances)

-- a statement that is no LAYER
abbrev pub unless_named : {R : Type 0} → R → Option (List ℕ) → Option R
unless_named r None = Some r
unless_named r (Some name) = None

abbrev pub shapes_by : {R : Type 0} → (R → Option (List ℕ)) → (R → Option Corners) → List R → List LayerShapes
shapes_by layer_of rect_of rs =
    map (λ x. record { layer = x.0; rectangles = map corners_read (filter_map rect_of x.1) }) (headed layer_of (λ r. unless_named r (layer_of r)) rs)

-- the numbers of a via that a VIARULE generates; enclosure and offset are those of the bottom metal and of the top one
pub record GeneratedVia : Type 0 where
  pub rule : List ℕ
  pub cut_size : Option Distances
  pub cut_spacing : Option Distances
  pub row_col : Option (ℤ × ℤ)
  pub layers : Option (List ℕ × (List ℕ × List ℕ))
  pub enclosure : Option (Distances × Distances)
  pub origin : Option Distances
  pub offset : Option (Distances × Distances)

pub data ViaBody : Type 0 where
  listed : List LayerShapes → ViaBody
  generated : GeneratedVia → ViaBody

-- a via, with the number of its parts whose shape isn't checked
pub record Via : Type 0 where
  pub name : List ℕ
  pub body : ViaBody
  pub unchecked : ℕ

-- outside of all blocks or in a rule
abbrev pub opened_via : LefRecord → Option (List ℕ)
opened_via (outside (opens_via name)) = Some name
opened_via (in_rule (opens_rule_via name)) = Some name
opened_via _ = None

abbrev pub via_record : LefRecord → Option ViaRecord
via_record (in_via r) = Some r
via_record _ = None

abbrev pub generated_by : List ℕ → List ViaRecord → GeneratedVia
generated_by rule rs = record {
  rule = rule;
  cut_size = option_map both_read (first_of cut_size_of rs);
  cut_spacing = option_map both_read (first_of cut_spacing_of rs);
  row_col = option_map (λ x. (whole_read x.0, whole_read x.1)) (first_of row_col_of rs);
  layers = first_of via_layers_of rs;
  enclosure = option_map metals_read (first_of enclosure_of rs);
  origin = option_map both_read (first_of via_origin_of rs);
  offset = option_map metals_read (first_of via_offset_of rs);
}

-- a via with a VIARULE is generated
abbrev pub via_body : Option (List ℕ) → List ViaRecord → ViaBody
via_body None rs = listed (shapes_by via_layer_of via_rect_of rs)
via_body (Some rule) rs = generated (generated_by rule rs)

abbrev pub via_with : List ℕ × List ViaRecord → Via
via_with x = record { name = x.0; body = via_body (first_of rule_of x.1) x.1; unchecked = length (filter is_via_polygon x.1) }

abbrev pub vias_of : List LefRecord → List Via
vias_of recs = map via_with (headed opened_via via_record recs)

-- a rule's layer and its WIDTH
pub record RuleLayer : Type 0 where
  pub name : List ℕ
  pub width : Option Distance

-- a rule: the first of its LAYER blocks of each name
pub record Rule : Type 0 where
  pub name : List ℕ
  pub layers : List RuleLayer

abbrev pub opened_rule : LefRecord → Option (List ℕ)
opened_rule (outside (opens_rule name)) = Some name
opened_rule _ = None

-- a statement in a block
abbrev pub inner_record : LefRecord → Option LefRecord
inner_record (outside r) = None
inner_record r = Some r

abbrev pub opened_rule_layer : LefRecord → Option (List ℕ)
opened_rule_layer (in_rule (opens_rule_layer name)) = Some name
opened_rule_layer _ = None

abbrev pub rule_layer_record : LefRecord → Option RuleLayerRecord
rule_layer_record (in_rule_layer r) = Some r
rule_layer_record _ = None

abbrev pub rule_layer_with : List ℕ × List RuleLayerRecord → RuleLayer
rule_layer_with x = record { name = x.0; width = option_map distance_read (first_of rule_width_of x.1) }

abbrev pub rule_with : List ℕ × List LefRecord → Rule
rule_with x = record { name = x.0; layers = with_all (λ (l : RuleLayer). l.name) [] (map rule_layer_with (headed opened_rule_layer rule_layer_record x.1)) }

abbrev pub rules_of : List LefRecord → List Rule
rules_of recs = map rule_with (headed opened_rule inner_record recs)

-- a pin: the shapes of its ports, and how many of their parts aren't checked
pub record Pin : Type 0 where
  pub name : List ℕ
  pub shapes : List LayerShapes
  pub unchecked : ℕ

-- a macro: its name, the first word of its first CLASS, width and height of its first SIZE, its first ORIGIN, the names of
-- all its SITEs, and the first of its pins of each name
pub record Macro : Type 0 where
  pub name : List ℕ
  pub class : Option (List ℕ)
  pub size : Option Distances
  pub origin : Option Distances
  pub sites : List (List ℕ)
  pub pins : List Pin

abbrev pub opened_pin : LefRecord → Option (List ℕ)
opened_pin (in_macro (opens_pin name)) = Some name
opened_pin _ = None

-- a statement in a pin or its ports
abbrev pub pin_record : LefRecord → Option LefRecord
pin_record (in_pin r) = Some (in_pin r)
pin_record (in_port r) = Some (in_port r)
pin_record _ = None

abbrev pub port_record : LefRecord → Option PortRecord
port_record (in_port r) = Some r
port_record _ = None

abbrev pub pin_of_ports : List ℕ → List PortRecord → Pin
pin_of_ports name rs = record { name = name; shapes = shapes_by port_layer_of port_rect_of rs; unchecked = length (filter is_unchecked rs) }

abbrev pub pin_with : List ℕ × List LefRecord → Pin
pin_with x = pin_of_ports x.0 (filter_map port_record x.1)

abbrev pub opened_macro : LefRecord → Option (List ℕ)
opened_macro (outside (opens_macro name)) = Some name
opened_macro _ = None

abbrev pub macro_record : LefRecord → Option MacroRecord
macro_record (in_macro r) = Some r
macro_record _ = None

abbrev pub pins_of : List LefRecord → List Pin
pins_of rs = with_all (λ (p : Pin). p.name) [] (map pin_with (headed opened_pin pin_record rs))

abbrev pub macro_of : List ℕ → List MacroRecord → List Pin → Macro
macro_of name rs pins = record {
  name = name;
  class = first_of class_of rs;
  size = option_map both_read (first_of size_of rs);
  origin = option_map point_read (first_of origin_of rs);
  sites = filter_map site_of rs;
  pins = pins;
}

abbrev pub macro_with : List ℕ × List LefRecord → Macro
macro_with x = macro_of x.0 (filter_map macro_record x.1) (pins_of x.1)

abbrev pub macros_of : List LefRecord → List Macro
macros_of recs = map macro_with (headed opened_macro inner_record recs)
